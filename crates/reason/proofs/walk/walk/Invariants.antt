use Prim.Native.Nat.{◌-◌}
use Rattle.reason.proofs.WalkLaws.{Walking}
use Rattle.reason.proofs.walk.walk.Given as goal

abbrev pub invariant-loop-place : goal.invariant-loop-place
invariant-loop-place l = Walking l.initial.pointers l.packet l.to l.pointers l.place l.index

abbrev pub decreases-loop-place : goal.decreases-loop-place
decreases-loop-place l = l.to - l.place
