use lib.ListN.{length}
use Rattle.card.proofs.PerformLaws.{Doing}
use Rattle.card.proofs.run.perform.Given as goal

abbrev pub invariant-loop-rest : goal.invariant-loop-rest
invariant-loop-rest l = Doing l.initial.pointers l.packet l.initial.store l.initial.reply l.store l.pointers l.reply l.filled l.elements l.rest

abbrev pub decreases-loop-rest : goal.decreases-loop-rest
decreases-loop-rest l = length l.rest
