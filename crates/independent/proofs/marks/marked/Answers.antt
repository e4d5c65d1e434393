use native.Mathlib.Omega.{arith}
use mathlib.Core.Path.{refl}
use Rattle.independent.specs.Inside.{marked_by}
use Rattle.independent.proofs.marks.marked.Goals as goal

pub returns-then-write-old : goal.returns-then-write-old
unfolding marked_by
returns-then-write-old c = (rw c.if-write-old.true refl, omega arith)

pub returns-else-write-old : goal.returns-else-write-old
unfolding marked_by
returns-else-write-old c = (rw c.if-write-old.false refl, omega arith)
