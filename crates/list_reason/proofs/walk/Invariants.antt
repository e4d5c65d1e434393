use lib.ListN.{length}
use Rattle.list_reason.proofs.ReachLaws.{Going}
use Rattle.list_reason.proofs.walk.Given as goal

abbrev pub invariant-loop-rest : goal.invariant-loop-rest
invariant-loop-rest l = Going l.list l.rest l.index

abbrev pub decreases-loop-rest : goal.decreases-loop-rest
decreases-loop-rest l = length l.rest
