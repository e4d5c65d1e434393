use lib.ListN.{length}
use Rattle.recording.proofs.LoopLaws.{Judging}
use Rattle.recording.proofs.judge_parts.Given as goal

abbrev pub invariant-loop-k : goal.invariant-loop-k
invariant-loop-k l = Judging l.recording l.initial.store l.initial.pointers l.initial.room l.store l.room l.pointers l.packets l.at l.rest

abbrev pub decreases-loop-k : goal.decreases-loop-k
decreases-loop-k l = length l.rest
