use Rattle.lbp16.specs.Word.{fields_of}
use mathlib.Core.Path.{refl}
use Rattle.lbp16.proofs.word.fields_of.Goals as goal

pub returns : goal.returns
unfolding fields_of
returns c = refl
