use mathlib.Core.Path.{refl}
use Rattle.cue_text.specs.Words.{is_blank}
use Rattle.cue_text.proofs.word.is_blank.Goals as goal

pub returns : goal.returns
unfolding is_blank
returns c = refl
