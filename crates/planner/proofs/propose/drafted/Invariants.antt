use lib.ListN.{length}
use Rattle.planner.proofs.DraftLaws.{Drafting}
use Rattle.planner.proofs.propose.drafted.Given as goal

abbrev pub invariant-loop-rest : goal.invariant-loop-rest
invariant-loop-rest l = Drafting l.initial.out l.out l.p

abbrev pub decreases-loop-rest : goal.decreases-loop-rest
decreases-loop-rest l = length l.rest
