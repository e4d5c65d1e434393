use mathlib.Core.Path.{refl}
use borrow.Author.Tests.{eq-eqb, ne_eqb}
use Rattle.head.specs.Exports.{bad_flags}
use Rattle.head.proofs.lent.bad_fields.Goals as goal

pub returns-then-bytes-ne7 : goal.returns-then-bytes-ne7
returns-then-bytes-ne7 c = rw (ne_eqb _ _ c.if-bytes-ne7.true) refl

pub returns : goal.returns
unfolding bad_flags
returns c = rw (eq-eqb _ _ c.if-bytes-ne7.false) refl
