use mathlib.Core.Path.{refl}
use Rattle.why_output.specs.Words.{no_words}
use Rattle.why_output.proofs.words.no_words.Goals as goal

pub returns : goal.returns
unfolding no_words
returns c = refl
