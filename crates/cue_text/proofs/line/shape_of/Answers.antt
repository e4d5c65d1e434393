use mathlib.Core.Path.{refl}
use borrow.Author.Tests.{eq-eqb, ne_eqb}
use Rattle.text.specs.Number.{ascii}
use Rattle.cue_text.specs.Inside.{shape_of}
use Rattle.cue_text.proofs.line.shape_of.Goals as goal

pub returns-then-count-eq0 : goal.returns-then-count-eq0
unfolding shape_of
returns-then-count-eq0 c = rw (eq-eqb _ _ c.if-count-eq0.true) refl

pub returns-then-same : goal.returns-then-same
unfolding shape_of ascii
returns-then-same c = rw (ne_eqb _ _ c.if-count-eq0.false, ← c.same.ensures, c.if-same.true) c.read_shape.ensures

pub returns-then-same-2 : goal.returns-then-same-2
unfolding shape_of ascii
returns-then-same-2 c = rw (ne_eqb _ _ c.if-count-eq0.false, ← c.same.ensures, c.if-same.false, ← c.same-2.ensures, c.if-same-2.true)
    c.write_shape.ensures

pub returns-then-same-3 : goal.returns-then-same-3
unfolding shape_of ascii
returns-then-same-3 c = rw (ne_eqb _ _ c.if-count-eq0.false, ← c.same.ensures, c.if-same.false)
    (rw (← c.same-2.ensures, c.if-same-2.false, ← c.same-3.ensures, c.if-same-3.true) c.name_shape.ensures)

pub returns : goal.returns
unfolding shape_of ascii
returns c = rw (ne_eqb _ _ c.if-count-eq0.false, ← c.same.ensures, c.if-same.false)
    (rw (← c.same-2.ensures, c.if-same-2.false, ← c.same-3.ensures, c.if-same-3.false) refl)
