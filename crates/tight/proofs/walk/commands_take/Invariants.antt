use lib.ListN.{length}
use Rattle.tight.proofs.PacketLaws.{Going}
use Rattle.tight.proofs.walk.commands_take.Given as goal

abbrev pub invariant-loop-rest : goal.invariant-loop-rest
invariant-loop-rest l = Going l.initial.pointers l.packet l.list l.pointers l.rest l.taken

abbrev pub decreases-loop-rest : goal.decreases-loop-rest
decreases-loop-rest l = length l.rest
