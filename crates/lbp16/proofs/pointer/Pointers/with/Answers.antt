use Rattle.lbp16.specs.Pointer.{with_pointer}
use Rattle.lbp16.proofs.pointer.Pointers.with.Goals as goal

pub returns-then-info : goal.returns-then-info
unfolding with_pointer
returns-then-info c = rw (c.if-info.true, c.with-next.ensures)

pub returns-else-info : goal.returns-else-info
unfolding with_pointer
returns-else-info c = rw (c.if-info.false, c.with-next-else-info.ensures)
