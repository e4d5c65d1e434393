use mathlib.Core.Path.{refl}
use native.Mathlib.Omega.{arith}
use Rattle.packet.specs.Command.{header_bytes}
use Rattle.packet.proofs.command.header_bytes.Goals as goal

pub returns-then-f : goal.returns-then-f
unfolding header_bytes
returns-then-f c = rw c.if-f.true (refl, omega arith)

pub returns-else-f : goal.returns-else-f
unfolding header_bytes
returns-else-f c = rw c.if-f.false (refl, omega arith)
