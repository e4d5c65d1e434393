use lib.ListN.{length}
use Rattle.lbp16.specs.Pointer.{pointers_of}
use Rattle.interlock.proofs.PlaceLaws.{Walk}
use Rattle.interlock.proofs.walk.protected_place.Given as goal

abbrev pub invariant-loop-rest : goal.invariant-loop-rest
invariant-loop-rest l = Walk l.guard l.packet (pointers_of l.pointers) l.p l.rest

abbrev pub decreases-loop-rest : goal.decreases-loop-rest
decreases-loop-rest l = length l.rest
