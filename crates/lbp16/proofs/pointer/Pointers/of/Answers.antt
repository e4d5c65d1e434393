use Rattle.lbp16.specs.Pointer.{pointer_of}
use Rattle.lbp16.proofs.pointer.Pointers.of.Goals as goal

pub returns-then-info : goal.returns-then-info
unfolding pointer_of
returns-then-info c = rw c.if-info.true c.of.ensures

pub returns-else-info : goal.returns-else-info
unfolding pointer_of
returns-else-info c = rw c.if-info.false c.of-else-info.ensures
