use mathlib.Core.Path.{refl}
use Rattle.spi.specs.Spi.{header_of}
use Rattle.spi.proofs.header_of.Goals as goal

pub returns : goal.returns
unfolding header_of
returns c = refl
