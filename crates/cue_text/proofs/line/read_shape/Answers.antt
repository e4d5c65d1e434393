use mathlib.Core.Path.{refl}
use borrow.Author.Tests.{eq-eqb, ne_eqb}
use Rattle.cue_text.specs.Inside.{read_shape}
use Rattle.cue_text.proofs.line.read_shape.Goals as goal

pub returns-then-count-eq2 : goal.returns-then-count-eq2
unfolding read_shape
returns-then-count-eq2 c = rw (eq-eqb _ _ c.if-count-eq2.true) refl

pub returns-then-count-eq3 : goal.returns-then-count-eq3
unfolding read_shape
returns-then-count-eq3 c = rw (ne_eqb _ _ c.if-count-eq2.false, eq-eqb _ _ c.if-count-eq3.true) refl

pub returns : goal.returns
unfolding read_shape
returns c = rw (ne_eqb _ _ c.if-count-eq2.false, ne_eqb _ _ c.if-count-eq3.false) refl
