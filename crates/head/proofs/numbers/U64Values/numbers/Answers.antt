use mathlib.Core.Path.{refl}
use Rattle.head.specs.Exports.{number_of, value_of, count_of, numbers_of}
use Rattle.head.proofs.numbers.U64Values.numbers.Goals as goal

pub returns : goal.returns
unfolding numbers_of number_of value_of count_of
returns c = refl
