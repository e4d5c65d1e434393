use Rattle.why_output.proofs.PointedLaws.{Looking}
use Rattle.why_output.proofs.pointed.pointed_before.Given as goal

abbrev pub invariant-loop-n : goal.invariant-loop-n
invariant-loop-n l = Looking l.packet l.place l.n l.rest

abbrev pub decreases-loop-n : goal.decreases-loop-n
decreases-loop-n l = l.n
