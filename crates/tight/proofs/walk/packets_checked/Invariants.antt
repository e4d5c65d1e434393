use lib.ListN.{length}
use Rattle.tight.proofs.PartsLaws.{Parting}
use Rattle.tight.proofs.walk.packets_checked.Given as goal

abbrev pub invariant-loop-rest : goal.invariant-loop-rest
invariant-loop-rest l = Parting l.list l.proposal l.rest l.taken l.packets

abbrev pub decreases-loop-rest : goal.decreases-loop-rest
decreases-loop-rest l = length l.rest
