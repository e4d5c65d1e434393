use borrow.Author.Tests.{lt-ltb, le-ltb}
use mathlib.Core.Path.{refl}
use Rattle.lbp16.proofs.pointer.pointer_in.Goals as goal

pub returns-then-slot-lt8 : goal.returns-then-slot-lt8
returns-then-slot-lt8 c = rw (lt-ltb _ _ c.if-slot-lt8.true) c.at_slot.ensures

pub returns-else-slot-lt8 : goal.returns-else-slot-lt8
returns-else-slot-lt8 c = rw (le-ltb _ _ c.if-slot-lt8.false) refl
