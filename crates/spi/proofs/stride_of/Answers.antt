use mathlib.Core.Path.{refl}
use native.Mathlib.Omega.{arith}
use Rattle.spi.proofs.stride_of.Goals as goal

pub returns-then-h : goal.returns-then-h
returns-then-h c = rw c.if-h.true (refl, omega arith)

pub returns-else-h : goal.returns-else-h
returns-else-h c = rw c.if-h.false (refl, omega arith)
