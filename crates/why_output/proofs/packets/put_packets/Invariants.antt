use mathlib.Core.Path.{◌≡◌}
use lib.ListN.{length}
use Rattle.why_output.proofs.PacketsLaws.{Judging}
use Rattle.why_output.proofs.packets.put_packets.Given as goal

abbrev pub invariant-loop-stop : goal.invariant-loop-stop
invariant-loop-stop l = Judging l.given l.bytes l.initial.store l.initial.pointers l.store l.pointers l.from.used l.i l.rest × (l.from.given ≡ l.given)
    × (l.room ≡ l.initial.room)

abbrev pub decreases-loop-stop : goal.decreases-loop-stop
decreases-loop-stop l = length l.rest
