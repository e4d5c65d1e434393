use Rattle.sserial.specs.Inside.{directed_ahead}
use Rattle.sserial.proofs.WalkLaws.{Packing}
use Rattle.sserial.proofs.pack.pack_values.Given as goal

abbrev pub invariant-loop-v : goal.invariant-loop-v
invariant-loop-v l = Packing (directed_ahead l.initial.fields) l.values (directed_ahead l.fields) l.words l.low l.v-index
