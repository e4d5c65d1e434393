use mathlib.Core.Path.{refl}
use Rattle.sserial.specs.Calls.{table_listed}
use Rattle.sserial.specs.Inside.{sums_answer}
use Rattle.sserial.proofs.count.answered.Goals as goal

pub returns-in-None : goal.returns-in-None
unfolding table_listed sums_answer
returns-in-None c = rw (c.at.ensures, c.in-None.is) refl

pub returns-in-Some : goal.returns-in-Some
unfolding table_listed sums_answer
returns-in-Some c = rw c.in-Some.is refl
