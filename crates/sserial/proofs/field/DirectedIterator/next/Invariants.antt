use Rattle.std.proofs.Common.{◌≡◌, length}
use Rattle.sserial.specs.Inside.{fields_ahead, directed_ahead}
use Rattle.sserial.proofs.field.DirectedIterator.next.Given as goal

abbrev pub invariant-loop-f : goal.invariant-loop-f
invariant-loop-f l = directed_ahead l.self ≡ directed_ahead l.fn.self

abbrev pub decreases-loop-f : goal.decreases-loop-f
decreases-loop-f l = length (fields_ahead l.self.fields)
