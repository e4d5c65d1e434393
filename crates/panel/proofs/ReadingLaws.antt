-- Laws of readings.
use Prim.Native.Nat.{ℕ, ◌-◌, ◌^◌, ◌≤◌, ◌<◌}
use mathlib.Core.Path.{◌≡◌, refl}
use mathlib.Core.Bool.{Bool, true, false, not, ◌&&◌, ◌||◌, true≢false, false≢true}
use native.Mathlib.Omega.{arith}
use lib.Dec.{eqb, ltb}
use lib.Pow.{pow_mono, pow_pos}
use lib.Ieee.{lt}
use lib.Ieee.Scale.{finite}
use borrow.Author.Tests.{eqb-false, ltb-false}
use Rattle.lbp16.proofs.BoolLaws.{or_false, and_true}
use Rattle.panel.specs.Reading.{refused, full, unreadable, bounds_of, bad_bounds, scaled, reading}
use Rattle.panel.specs.declared.reading.Bounds.{Bounds}

-- what a field that is not refused with 44 has
pub record Readable (width value : ℕ) : Type 0 where
  pub least : 1 ≤ width
  pub wide : width ≤ 24
  pub full : value ≤ 2 ^ width - 1
  pub small : value < 2 ^ 24

pub panel_width : (kind width : ℕ) → not (eqb kind 2) || eqb width 0 || ltb 24 width ≡ false → width ≤ 24
panel_width kind width e = ltb-false _ _ (or_false (not (eqb kind 2) || eqb width 0) (ltb 24 width) e).1

module _ (kind width value : ℕ) where
  pub readable : unreadable kind width value ≡ false → Readable width value
  unfolding unreadable
  readable e =
      let q = or_false (not (eqb kind 2) || eqb width 0 || ltb 24 width) (ltb (full width) value) e in
      let w : width ≤ 24 = panel_width kind width q.0 in
      let v : value ≤ 2 ^ width - 1 = ltb-false _ _ q.1 in
      let m : 2 ^ width ≤ 2 ^ 24 = pow_mono w in
      let p : 0 < 2 ^ width = pow_pos width in
      let z = eqb-false width 0 (or_false (not (eqb kind 2)) (eqb width 0) (or_false _ (ltb 24 width) q.0).0).1 in
      record { least = omega (arith, z); wide = w; full = v; small = omega arith }

  pub other-field : not (eqb kind 2) || eqb width 0 || ltb 24 width ≡ true → unreadable kind width value ≡ true
  unfolding unreadable
  other-field e = rw e refl

  pub field-of_panel : (n : ℕ) → n ≡ full width
      → not (eqb kind 2) || eqb width 0 || ltb 24 width ≡ false → ltb n value ≡ unreadable kind width value
  unfolding unreadable
  field-of_panel n f e = rw (e, f) refl

module _ (b : Bounds) where
  pub bad_infinite : finite b.minimum && finite b.maximum ≡ false → bad_bounds b ≡ true
  unfolding bad_bounds
  bad_infinite = go (finite b.minimum) (finite b.maximum) (lt b.minimum b.maximum)
    where
      go : (x y z : Bool) → x && y ≡ false → not x || not y || not z ≡ true
      go true true z e = absurd (true≢false e)
      go true false z e = refl
      go false y z e = refl

  pub finite_both : finite b.minimum && finite b.maximum ≡ true
      → (finite b.minimum ≡ true) × (finite b.maximum ≡ true)
  finite_both = and_true (finite b.minimum) (finite b.maximum)

  pub by_order : finite b.minimum && finite b.maximum ≡ true → bad_bounds b ≡ not (lt b.minimum b.maximum)
  unfolding bad_bounds
  by_order = go (finite b.minimum) (finite b.maximum) (lt b.minimum b.maximum)
    where
      go : (x y z : Bool) → x && y ≡ true → not x || not y || not z ≡ not z
      go true true z e = refl
      go true false z e = absurd (false≢true e)
      go false y z e = absurd (false≢true e)

module _ (kind width value minimum maximum : ℕ) where
  pub refused_44 : unreadable kind width value ≡ true → reading kind width value minimum maximum ≡ refused 44 0
  unfolding reading
  refused_44 e = rw e refl

  pub refused_45 : unreadable kind width value ≡ false → bad_bounds (bounds_of minimum maximum) ≡ true
      → reading kind width value minimum maximum ≡ refused 45 0
  unfolding reading
  refused_45 e f = rw (e, f) refl

  pub sound : unreadable kind width value ≡ false → bad_bounds (bounds_of minimum maximum) ≡ false
      → reading kind width value minimum maximum ≡ scaled width value (bounds_of minimum maximum)
  unfolding reading
  sound e f = rw (e, f) refl
