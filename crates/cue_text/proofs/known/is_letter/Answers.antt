use Rattle.cue_text.specs.Numbers.{is_letter}
use Rattle.cue_text.proofs.known.is_letter.Goals as goal

pub returns : goal.returns
unfolding is_letter
returns c = c.is_ascii_alphabetic.ensures.value
