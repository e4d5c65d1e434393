use mathlib.Core.Path.{◌∙◌}
use Rattle.packet.proofs.ElementLaws.{which-refused}
use Rattle.packet.proofs.refusal.which_of.Goals as goal

pub returns-in-Err : goal.returns-in-Err
returns-in-Err c place = rw c.in-Err.is (which-refused _ place _)

pub returns : goal.returns
returns c place = rw c.in_default.is (c.read_or_write.ensures place)
