use mathlib.Core.Path.{refl}
use Rattle.sserial.specs.Table.{stands_in}
use Rattle.sserial.proofs.table.stands_in.Goals as goal

pub returns-in-Inputs : goal.returns-in-Inputs
unfolding stands_in
returns-in-Inputs c = rw c.in-Inputs.is refl

pub returns-in-Outputs : goal.returns-in-Outputs
unfolding stands_in
returns-in-Outputs c = rw c.in-Outputs.is refl
