use mathlib.Core.Path.{refl}
use borrow.Author.Tests.{eq-eqb, ne_eqb}
use Rattle.cue_text.specs.Inside.{write_shape}
use Rattle.cue_text.proofs.line.write_shape.Goals as goal

pub returns-then-count-eq3 : goal.returns-then-count-eq3
unfolding write_shape
returns-then-count-eq3 c = rw (eq-eqb _ _ c.if-count-eq3.true) refl

pub returns-then-count-eq4 : goal.returns-then-count-eq4
unfolding write_shape
returns-then-count-eq4 c = rw (ne_eqb _ _ c.if-count-eq3.false, eq-eqb _ _ c.if-count-eq4.true) refl

pub returns : goal.returns
unfolding write_shape
returns c = rw (ne_eqb _ _ c.if-count-eq3.false, ne_eqb _ _ c.if-count-eq4.false) refl
