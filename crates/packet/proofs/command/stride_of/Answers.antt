use Rattle.packet.specs.Command.{stride, row_of, kind_of}
use mathlib.Core.Path.{refl, ap}
use Rattle.packet.proofs.command.stride_of.Goals as goal

pub returns-then-f : goal.returns-then-f
unfolding stride row_of kind_of
returns-then-f c = rw c.if-f.true (ap (λ r. r.element) c.row_of-step.ensures)

pub returns-else-f : goal.returns-else-f
unfolding stride
returns-else-f c = rw c.if-f.false refl
