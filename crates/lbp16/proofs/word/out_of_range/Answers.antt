use Rattle.lbp16.specs.Word.{out_of_range}
use mathlib.Core.Path.{refl}
use Rattle.lbp16.proofs.word.out_of_range.Goals as goal

pub returns : goal.returns
unfolding out_of_range
returns c = refl
