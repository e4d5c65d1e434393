use Rattle.tight.specs.Tight.{check_listed}
use Rattle.head.specs.TightExports.{tight_given}
use Rattle.head.proofs.tight_exports.of_fault.Goals as goal

pub returns-in-Rejected : goal.returns-in-Rejected
unfolding tight_given check_listed
returns-in-Rejected c = rw c.in-Rejected.is

pub returns-in-List : goal.returns-in-List
unfolding tight_given check_listed
returns-in-List c = rw (c.in-List.is, c.number.ensures)
