use Rattle.std.proofs.Common.{◌-◌}
use Rattle.cuepipe.proofs.serve.Given as goal

abbrev pub invariant-loop-at : goal.invariant-loop-at
invariant-loop-at g l = Unit {0}

abbrev pub decreases-loop-at : goal.decreases-loop-at
decreases-loop-at g l = 1048576 - l.at
