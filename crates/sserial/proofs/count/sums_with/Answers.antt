use mathlib.Core.Path.{refl}
use Rattle.sserial.specs.Inside.{sums_with}
use Rattle.sserial.proofs.count.sums_with.Goals as goal

pub returns-then-f-inputs : goal.returns-then-f-inputs
unfolding sums_with
returns-then-f-inputs c = rw (← c.sum_with-inputs.ensures, ← c.sum_with-outputs.ensures, c.if-f-inputs.true) refl

pub returns : goal.returns
unfolding sums_with
returns c = rw (← c.sum_with-inputs.ensures, ← c.sum_with-outputs.ensures, c.if-f-inputs.false) refl
