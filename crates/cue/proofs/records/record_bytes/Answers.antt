use mathlib.Core.Path.{refl}
use native.Mathlib.Omega.{arith}
use Rattle.packet.specs.Step.{is_write}
use Rattle.cue.specs.Records.{record_bytes}
use Rattle.cue.proofs.records.record_bytes.Goals as goal

pub returns-then-write : goal.returns-then-write
unfolding record_bytes is_write
returns-then-write c = rw c.if-write.true (refl, omega arith)

pub returns-else-write : goal.returns-else-write
unfolding record_bytes is_write
returns-else-write c = rw c.if-write.false (refl, omega arith)
