use mathlib.Core.Path.{refl}
use borrow.Author.Tests.{eq-eqb, ne_eqb}
use Rattle.head.specs.Exports.{export_fields}
use Rattle.head.proofs.head_fields.Goals as goal

pub returns-then-fields-ne7 : goal.returns-then-fields-ne7
unfolding export_fields
returns-then-fields-ne7 c = rw (ne_eqb _ _ c.if-fields-ne7.true) refl

pub returns : goal.returns
unfolding export_fields
returns c = rw (eq-eqb _ _ c.if-fields-ne7.false, c.put_fields.ensures, c.fields_of.ensures) refl
