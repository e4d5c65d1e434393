use native.Mathlib.Omega.{arith}
use native.Mathlib.Nat.{mul-zero}
use mathlib.Core.Path.{sym}
use Rattle.packet.proofs.ElementLaws.{carried-write, carried-read}
use Rattle.packet.proofs.command.carried_bytes.Goals as goal

pub returns-then-f : goal.returns-then-f
returns-then-f c = rw (carried-write c.args.f c.if-f.true) c.element_bytes.ensures

pub returns-else-f : goal.returns-else-f
returns-else-f c = rw (carried-read c.args.f c.if-f.false) (sym (mul-zero _), omega arith)
