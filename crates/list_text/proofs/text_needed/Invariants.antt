use lib.ListN.{length}
use Rattle.list_text.proofs.WriteLaws.{Counting}
use Rattle.list_text.proofs.text_needed.Given as goal

abbrev pub invariant-loop-rest : goal.invariant-loop-rest
invariant-loop-rest l = Counting l.list l.rest l.index l.bytes

abbrev pub decreases-loop-rest : goal.decreases-loop-rest
decreases-loop-rest l = length l.rest
