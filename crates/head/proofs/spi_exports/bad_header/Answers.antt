use mathlib.Core.Path.{refl}
use borrow.Author.Tests.{eq-eqb, ne_eqb}
use Rattle.head.specs.SpiExports.{bad_header}
use Rattle.head.proofs.spi_exports.bad_header.Goals as goal

pub returns-then-fields-ne4 : goal.returns-then-fields-ne4
returns-then-fields-ne4 c = rw (ne_eqb _ _ c.if-fields-ne4.true) refl

pub returns : goal.returns
unfolding bad_header
returns c = rw (eq-eqb _ _ c.if-fields-ne4.false) refl
