use lib.ListN.{length}
use Rattle.cue.proofs.EmitLaws.{Filled}
use Rattle.cue.proofs.emit.emit.Given as goal

abbrev pub invariant-loop-rest : goal.invariant-loop-rest
invariant-loop-rest l = Filled l.list l.rest l.initial.out l.out l.packer

abbrev pub decreases-loop-rest : goal.decreases-loop-rest
decreases-loop-rest l = length l.rest
