use mathlib.Core.Path.{refl}
use borrow.Author.Tests.{eq-eqb, ne_eqb}
use Rattle.head.specs.SserialExports.{direction_of}
use Rattle.head.proofs.sserial_exports.direction_of.Goals as goal

pub returns-then-direction-eq0 : goal.returns-then-direction-eq0
unfolding direction_of
returns-then-direction-eq0 c = rw (eq-eqb _ _ c.if-direction-eq0.true) refl

pub returns-else-direction-eq0 : goal.returns-else-direction-eq0
unfolding direction_of
returns-else-direction-eq0 c = rw (ne_eqb _ _ c.if-direction-eq0.false) refl
