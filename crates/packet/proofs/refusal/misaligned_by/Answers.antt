use mathlib.Core.Path.{refl}
use borrow.Author.Tests.{eq-eqb, ne_eqb}
use Rattle.packet.proofs.refusal.misaligned_by.Goals as goal

pub returns-then-element-eq4 : goal.returns-then-element-eq4
returns-then-element-eq4 c = rw (eq-eqb _ _ c.if-element-eq4.true) refl

pub returns-else-element-eq4 : goal.returns-else-element-eq4
returns-else-element-eq4 c = rw (ne_eqb _ _ c.if-element-eq4.false) refl
