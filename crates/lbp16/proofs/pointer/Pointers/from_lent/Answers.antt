use mathlib.Core.Path.{refl}
use Rattle.lbp16.specs.Pointer.{pointers_of}
use Rattle.lbp16.proofs.pointer.Pointers.from_lent.Goals as goal

pub returns : goal.returns
unfolding pointers_of
returns c = rw (c.from_lent.ensures, c.from_lent-2.ensures) refl
