use Rattle.tight.specs.Tight.{check_listed}
use Rattle.head.specs.TightExports.{tight_given}
use Rattle.head.proofs.tight_exports.numbers_of.Goals as goal

pub returns-in-Ok : goal.returns-in-Ok
unfolding tight_given check_listed
returns-in-Ok c = rw c.in-Ok.is

pub returns-in-Err : goal.returns-in-Err
returns-in-Err c = rw c.in-Err.is c.of_fault.ensures
