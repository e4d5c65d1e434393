use native.Mathlib.Omega.{arith}
use mathlib.Core.Path.{refl}
use Rattle.spi.proofs.span_of.Goals as goal

pub returns-then-h : goal.returns-then-h
returns-then-h c = rw c.if-h.true (refl, omega arith)
