use Prim.Native.Nat.{◌-◌}
use lib.ListN.{length}
use Rattle.sserial.proofs.CountLaws.{Counting}
use Rattle.sserial.proofs.count.count_fields.Given as goal

abbrev pub invariant-loop-f : goal.invariant-loop-f
invariant-loop-f l = Counting l.memory l.table l.at l.s

abbrev pub decreases-loop-f : goal.decreases-loop-f
decreases-loop-f l = length l.memory - l.at
