use mathlib.Core.Path.{refl}
use borrow.Author.Tests.{eq-eqb, ne_eqb}
use Rattle.head.specs.SpiExports.{export_header}
use Rattle.head.proofs.spi_exports.head_header.Goals as goal

pub returns-then-fields-ne4 : goal.returns-then-fields-ne4
unfolding export_header
returns-then-fields-ne4 c = rw (ne_eqb _ _ c.if-fields-ne4.true) refl

pub returns : goal.returns
unfolding export_header
returns c = rw (eq-eqb _ _ c.if-fields-ne4.false, c.put_header.ensures, c.header_of.ensures) refl
