use mathlib.Core.Path.{refl}
use Rattle.packet.specs.Command.{address_used}
use Rattle.packet.proofs.command.address_used.Goals as goal

pub returns : goal.returns
unfolding address_used
returns c = rw (c.address_by.ensures, c.of-pointer.ensures, c.is_info.ensures) refl
