use Rattle.reason.specs.Reason.{unnamed}
use Rattle.reason.proofs.no_command.Goals as goal

pub returns : goal.returns
unfolding unnamed
returns c = rw c.fields_of.ensures
