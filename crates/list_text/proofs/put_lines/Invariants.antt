use lib.ListN.{length}
use Rattle.list_text.proofs.WriteLaws.{Putting}
use Rattle.list_text.proofs.put_lines.Given as goal

abbrev pub invariant-loop-rest : goal.invariant-loop-rest
invariant-loop-rest l = Putting l.list l.rest l.initial.out l.out l.at

abbrev pub decreases-loop-rest : goal.decreases-loop-rest
decreases-loop-rest l = length l.rest
