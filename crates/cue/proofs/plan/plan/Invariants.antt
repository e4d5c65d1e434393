use lib.ListN.{length}
use Rattle.cue.proofs.LoopLaws.{Holding}
use Rattle.cue.proofs.plan.plan.Given as goal

abbrev pub invariant-loop-rest : goal.invariant-loop-rest
invariant-loop-rest l = Holding l.list l.rest l.index l.packer

abbrev pub decreases-loop-rest : goal.decreases-loop-rest
decreases-loop-rest l = length l.rest
