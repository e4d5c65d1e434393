use Rattle.std.proofs.Common.{◌∙◌}
use Rattle.cue_text.specs.Inside.{meaning_of}
use Rattle.cue_text.proofs.SaidLaws.{write-none, write-nowhere, write-there, none_is}
use Rattle.cue_text.proofs.line.write_said.Goals as goal

pub returns-in_default : goal.returns-in_default
unfolding meaning_of
returns-in_default c text = write-none _ _ _ _ (none_is _ c.in_default.not-Some)

pub returns-in_default-p : goal.returns-in_default-p
unfolding meaning_of
returns-in_default-p c text = write-nowhere _ _ _ _ c.in-Some.is (none_is _ c.in_default-p.not-Some)

pub returns : goal.returns
returns c text = c.record_said.ensures text ∙ write-there _ _ _ _ c.in-Some.is c.in-Some-p.is
