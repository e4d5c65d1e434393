use Rattle.independent.specs.Independent.{independence_listed}
use Rattle.head.proofs.independent_exports.numbers_of.Goals as goal

pub returns-in-Independent : goal.returns-in-Independent
unfolding independence_listed
returns-in-Independent c = rw c.in-Independent.is

pub returns-in-Refused : goal.returns-in-Refused
unfolding independence_listed
returns-in-Refused c = rw (c.in-Refused.is, c.number.ensures)

pub returns-in-Clash : goal.returns-in-Clash
unfolding independence_listed
returns-in-Clash c = rw c.in-Clash.is
