use Rattle.std.proofs.Common.{◌∙◌}
use Rattle.cue_text.specs.Inside.{meaning_of}
use Rattle.cue_text.proofs.SaidLaws.{read-nowhere, read-there, none_is}
use Rattle.cue_text.proofs.line.read_said.Goals as goal

pub returns-in_default : goal.returns-in_default
unfolding meaning_of
returns-in_default c text = read-nowhere _ _ _ (none_is _ c.in_default.not-Some)

pub returns : goal.returns
returns c text = c.record_said.ensures text ∙ read-there _ _ _ c.in-Some.is
