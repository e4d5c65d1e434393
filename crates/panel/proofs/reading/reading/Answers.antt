use mathlib.Core.Path.{◌≡◌, sym, ap, ap₂, ◌∙◌}
use mathlib.Core.Bool.{Bool, true, not, ◌&&◌}
use native.Mathlib.Omega.{arith}
use lib.Ieee.{lt}
use Rattle.panel.specs.Reading.{bounds_of, refused_by, reading_listed}
use Rattle.panel.specs.declared.reading.Bounds.{Bounds}
use Rattle.panel.proofs.ReadingLaws.{Readable, readable, bad_infinite, by_order, refused_44, refused_45, sound}
use Rattle.panel.proofs.reading.reading.Goals as goal

both-finite : (a b p q : Bool) → a ≡ p → b ≡ q → a && b ≡ true → p && q ≡ true
both-finite a b p q e f h = sym (ap₂ ◌&&◌ e f) ∙ h

disordered : {a b : Bounds} → a ≡ b → not (lt a.minimum a.maximum) ≡ not (lt b.minimum b.maximum)
disordered e = ap (λ x. not (lt x.minimum x.maximum)) e

pub returns-then-unreadable : goal.returns-then-unreadable
unfolding reading_listed
returns-then-unreadable c = ap refused_by c.at.ensures ∙ sym (refused_44 _ _ _ _ _ (sym c.unreadable.ensures ∙ c.if-unreadable.true))

pub returns-then-not-finite_bits : goal.returns-then-not-finite_bits
unfolding reading_listed bounds_of
returns-then-not-finite_bits c = ap refused_by c.at-then-not-finite_bits.ensures
    ∙ sym
    (refused_45 _ _ _ _ _ (sym c.unreadable.ensures ∙ c.if-unreadable.false)
    (bad_infinite _
    (sym (ap₂ ◌&&◌ c.finite_bits.ensures c.finite_bits-2.ensures) ∙ c.if-not-finite_bits.true)))

pub returns-then-not-bounds : goal.returns-then-not-bounds
unfolding reading_listed bounds_of
returns-then-not-bounds c = ap refused_by c.at-then-not-bounds.ensures
    ∙ sym
    (refused_45 _ _ _ _ _ (sym c.unreadable.ensures ∙ c.if-unreadable.false)
    (by_order _ (both-finite _ _ _ _ c.finite_bits.ensures c.finite_bits-2.ensures c.if-not-finite_bits.false)
    ∙ disordered (sym c.bounds_of-bounds.ensures) ∙ ap not c.if-not-bounds.true))

pub overflow_cast-value : goal.overflow_cast-value
overflow_cast-value c = omega (arith, (readable _ _ _ (sym c.unreadable.ensures ∙ c.if-unreadable.false)).small)

pub scaled-requires : goal.scaled-requires
scaled-requires c = let r : Readable _ _ = readable _ _ _ (sym c.unreadable.ensures ∙ c.if-unreadable.false) in (r.wide, r.small)

pub returns : goal.returns
unfolding bounds_of
returns c = c.scaled.ensures
    ∙ rw
    c.bounds_of-bounds.ensures
    (sym
    (sound _ _ _ _ _
    (sym c.unreadable.ensures ∙ c.if-unreadable.false)
    (by_order _ (both-finite _ _ _ _ c.finite_bits.ensures c.finite_bits-2.ensures c.if-not-finite_bits.false) ∙ disordered (sym c.bounds_of-bounds.ensures)
    ∙ ap not c.if-not-bounds.false)))
