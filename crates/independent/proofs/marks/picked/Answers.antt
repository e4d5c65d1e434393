use borrow.Author.Rules.{rules}
use mathlib.Core.Path.{refl}
use borrow.Author.Tests.{eq-eqb, ne_eqb}
use Rattle.independent.specs.Inside.{picked}
use Rattle.independent.proofs.marks.picked.Goals as goal

pub returns-then-slot-k : goal.returns-then-slot-k
unfolding picked
returns-then-slot-k c = (rw (eq-eqb _ _ c.if-slot-k.true) refl, search rules)

pub returns-else-slot-k : goal.returns-else-slot-k
unfolding picked
returns-else-slot-k c = (rw (ne_eqb _ _ c.if-slot-k.false) c.mark_in.ensures.0, c.mark_in.ensures.1)
