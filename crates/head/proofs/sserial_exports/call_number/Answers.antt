use mathlib.Core.Path.{refl}
use Rattle.sserial.specs.Calls.{call_listed}
use Rattle.head.specs.Exports.{number_of}
use Rattle.head.proofs.sserial_exports.call_number.Goals as goal

pub returns-in-Ok : goal.returns-in-Ok
unfolding number_of call_listed
returns-in-Ok c = rw c.in-Ok.is

pub returns-in-Err : goal.returns-in-Err
unfolding number_of call_listed
returns-in-Err c = rw (c.number.ensures, c.in-Err.is) refl
