use native.Mathlib.Omega.{arith}
use Rattle.head.specs.SpiExports.{header_from}
use Rattle.head.proofs.SpiExportLaws.{address-fits, narrowed}
use Rattle.head.proofs.spi_exports.header_from.Goals as goal

pub overflow_cast-result : goal.overflow_cast-result
overflow_cast-result c = let h = address-fits _ c.requires.1 in omega arith

pub returns : goal.returns
unfolding header_from
returns c = narrowed _ _ _ _ _ _ c.byte_of.ensures c.byte_of-2.ensures
