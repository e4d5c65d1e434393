use mathlib.Core.Path.{refl}
use borrow.Author.Tests.{eq-eqb, ne_eqb}
use Rattle.cue_text.specs.Inside.{name_shape}
use Rattle.cue_text.proofs.line.name_shape.Goals as goal

pub returns-then-count-eq4 : goal.returns-then-count-eq4
unfolding name_shape
returns-then-count-eq4 c = rw (eq-eqb _ _ c.if-count-eq4.true) refl

pub returns : goal.returns
unfolding name_shape
returns c = rw (ne_eqb _ _ c.if-count-eq4.false) refl
