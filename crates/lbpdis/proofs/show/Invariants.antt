use Rattle.std.proofs.Common.{◌-◌, ◌≤◌}
use Rattle.lbpdis.proofs.show.Given as goal

abbrev pub invariant-loop-i : goal.invariant-loop-i
invariant-loop-i g l = l.i ≤ 3000000

abbrev pub decreases-loop-i : goal.decreases-loop-i
decreases-loop-i g l = 3000000 - l.i
