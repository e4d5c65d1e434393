use lib.ListN.{length}
use Rattle.packet.proofs.LoopLaws.{Checking}
use Rattle.packet.proofs.judge.judge_lent.Given as goal

abbrev pub invariant-loop-rest : goal.invariant-loop-rest
invariant-loop-rest l = Checking l.lent l.packet l.pointers l.unlocked l.reply l.rest

abbrev pub decreases-loop-rest : goal.decreases-loop-rest
decreases-loop-rest l = length l.rest
