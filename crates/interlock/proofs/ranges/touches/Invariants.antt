use mathlib.Core.Path.{◌≡◌}
use lib.ListN.{length}
use Rattle.interlock.specs.Guard.{touches}
use Rattle.interlock.proofs.ranges.touches.Given as goal

abbrev pub invariant-loop-rest : goal.invariant-loop-rest
invariant-loop-rest l = touches l.guard l.place l.width ≡ touches l.rest l.place l.width

abbrev pub decreases-loop-rest : goal.decreases-loop-rest
decreases-loop-rest l = length l.rest
