use Prim.Native.Nat.{◌+◌, ◌≤◌}
use Rattle.sserial.proofs.BitLaws.{Putting}
use Rattle.sserial.proofs.bits.put.Given as goal

abbrev pub invariant-loop-left : goal.invariant-loop-left
invariant-loop-left l = (l.low + l.width ≤ 96) × Putting l.initial.out l.low l.width l.value l.out l.at l.left l.rest

abbrev pub decreases-loop-left : goal.decreases-loop-left
decreases-loop-left l = l.left
