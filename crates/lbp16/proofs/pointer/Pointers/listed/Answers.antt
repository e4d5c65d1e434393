use mathlib.Core.Path.{refl}
use Rattle.lbp16.specs.Pointer.{lent_spaces, lent_pointers}
use Rattle.lbp16.proofs.pointer.Pointers.listed.Goals as goal

pub returns : goal.returns
unfolding lent_pointers lent_spaces
returns c = refl
