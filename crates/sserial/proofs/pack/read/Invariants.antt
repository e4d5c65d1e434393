use Rattle.sserial.specs.Layout.{joined}
use Rattle.sserial.specs.Inside.{directed_ahead}
use Rattle.sserial.proofs.WalkLaws.{Reading}
use Rattle.sserial.proofs.pack.read.Given as goal

abbrev pub invariant-loop-v : goal.invariant-loop-v
invariant-loop-v l = Reading (directed_ahead l.initial.fields) (joined l.words) (directed_ahead l.fields) l.v-items l.low l.v-index
