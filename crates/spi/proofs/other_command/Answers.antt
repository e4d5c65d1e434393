use mathlib.Core.Path.{refl}
use Rattle.spi.specs.Spi.{other_command}
use Rattle.spi.proofs.other_command.Goals as goal

pub returns : goal.returns
unfolding other_command
returns c = refl
