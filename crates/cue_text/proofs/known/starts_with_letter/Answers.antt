use Rattle.std.proofs.Common.{◌∙◌}
use Rattle.cue_text.proofs.KnownLaws.{letter_none, letter_first}
use Rattle.cue_text.proofs.known.starts_with_letter.Goals as goal

pub returns-in-Some : goal.returns-in-Some
returns-in-Some c = c.is_letter.ensures ∙ letter_first _ c.first.ensures.value c.in-Some.is

pub returns-in-None : goal.returns-in-None
returns-in-None c = letter_none _ c.first.ensures.value c.in-None.is
