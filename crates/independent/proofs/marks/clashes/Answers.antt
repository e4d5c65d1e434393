use mathlib.Core.Path.{refl}
use Rattle.independent.specs.Inside.{clashes_with}
use Rattle.independent.proofs.marks.clashes.Goals as goal

pub returns : goal.returns
unfolding clashes_with
returns c = refl
