use mathlib.Core.Path.{◌≡◌}
use lib.ListN.{length}
use Rattle.cuepipe_output.proofs.FeedLaws.{Feeding}
use Rattle.cuepipe_output.proofs.take_all.Given as goal

abbrev pub invariant-loop-rest : goal.invariant-loop-rest
invariant-loop-rest l = Feeding l.initial.state l.part l.initial.out l.state l.rest l.out l.next × (length l.state ≡ length l.initial.state) ×
    (length l.out ≡ length l.initial.out)

abbrev pub decreases-loop-rest : goal.decreases-loop-rest
decreases-loop-rest l = length l.rest
