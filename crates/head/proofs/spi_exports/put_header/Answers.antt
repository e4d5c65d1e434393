use mathlib.Core.Path.{refl}
use Rattle.head.specs.SpiExports.{header_numbers}
use Rattle.head.proofs.spi_exports.put_header.Goals as goal

pub returns-in-Some : goal.returns-in-Some
unfolding header_numbers
returns-in-Some c = rw (← c.flag.ensures) refl
