use Rattle.std.proofs.Common.{◌≡◌, ◌-◌, length}
use Rattle.sserial.specs.Inside.{fields_ahead}
use Rattle.sserial.proofs.field.FieldsIterator.next.Given as goal

abbrev pub invariant-loop-self : goal.invariant-loop-self
invariant-loop-self l = fields_ahead l.self ≡ fields_ahead l.fn.self

abbrev pub decreases-loop-self : goal.decreases-loop-self
decreases-loop-self l = length l.self.memory.now - l.self.at
