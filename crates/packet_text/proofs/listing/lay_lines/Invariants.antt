use lib.ListN.{length}
use Rattle.packet_text.proofs.LayingLaws.{Laying}
use Rattle.packet_text.proofs.listing.lay_lines.Given as goal

abbrev pub invariant-loop-rest : goal.invariant-loop-rest
invariant-loop-rest l = Laying l.initial.pointers l.commands l.pointers l.rest l.initial.out l.out l.bytes

abbrev pub decreases-loop-rest : goal.decreases-loop-rest
decreases-loop-rest l = length l.rest
