use mathlib.Core.Path.{refl}
use Rattle.lbp16.specs.Pointer.{slot_of}
use Rattle.lbp16.proofs.pointer.slot_of.Goals as goal

pub returns-then-info : goal.returns-then-info
unfolding slot_of
returns-then-info c = rw (c.if-info.true, c.space_slot-slot.ensures.0) refl

pub returns-else-info : goal.returns-else-info
unfolding slot_of
returns-else-info c = rw (c.if-info.false, c.space_slot-slot.ensures.0) refl
