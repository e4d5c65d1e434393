-- Laws of the reading itself: what zero and the full value read, and that no reading is a NaN.
use Prim.Native.Nat.{ℕ, zero, suc, ◌*◌, ◌^◌, ◌≤◌, ◌<◌}
use mathlib.Core.Path.{◌≡◌, refl, sym, ap, ◌∙◌}
use mathlib.Core.Bool.{Bool, true, false, not, ◌||◌, cond, true≢false, false≢true}
use native.Mathlib.Nat.{zero-lt-suc, zero-mul, mul-one, mul_assoc, mul_comm, mul_left_comm, mul_right_comm, mul-pos, lt_irrefl}
use native.Mathlib.Omega.{arith}
use lib.IntN.{ℤ, pos}
use lib.Dec.{T, ltb, eqb-suc-zero}
use lib.Pow.{pow_mono}
use lib.Ieee.{Float, nan, inf, fin, binary32, up, down, round, units, odd, mul, div, of_int, of_bits, fits, is_nan, lt}
use lib.Ieee.Back.{round_whole}
use lib.Ieee.Bits.{of_bits-fits}
use lib.Ieee.Exact.{HasValue}
use lib.Ieee.Fits.{up_pos, down_pos, round_is}
use lib.Ieee.Scale.{finite, round_same}
use borrow.Author.Tests.{ne_eqb, le-ltb}
use Rattle.panel.specs.Reading.{shown, refused, full, unreadable, bounds_of, bad_bounds, scaled, product, quotient, reading}
use Rattle.panel.proofs.ReadingLaws.{readable, sound}
use Rattle.panel.proofs.ExactLaws.{round_zero, round_own}

-- a whole number above 0, as a float
data Whole (n : ℕ) : Float → Type 0 where
  whole : {m : ℕ} {d : ℤ} → suc m * up d ≡ n * down d → Whole n (fin false (suc m) d)

whole_float : (n : ℕ) → 0 < n → n ≤ 2 ^ 24 → Whole n (of_int binary32 (pos n))
unfolding of_int
whole_float n h l = go (round binary32 false n 1) (round_whole binary32 false n l)
  where
    go : (x : Float) → HasValue x false n 1 → Whole n x
    go nan v = elim v [ ]
    go (inf _) v = elim v [ ]
    go (fin true m d) v = absurd (true≢false v.0)
    go (fin false zero d) v =
        absurd (lt_irrefl 0 (rw (zero-mul (up d)) at (rw (← v.1) at (mul-pos h (down_pos d)))))
    go (fin false (suc m) d) v = whole (sym (mul-one _) ∙ v.1)

full_float : (width : ℕ) → 1 ≤ width → width ≤ 24 → Whole (full width) (of_int binary32 (pos (full width)))
full_float width h l =
    let a : 2 ^ 1 ≤ 2 ^ width = pow_mono h in
    let b : 2 ^ width ≤ 2 ^ 24 = pow_mono l in
    whole_float (full width) (omega arith) (omega arith)

over : (s : Bool) (p : ℕ) (g : ℤ) (m : ℕ) (d : ℤ)
    → div binary32 (fin s p g) (fin false (suc m) d) ≡ round binary32 s (p * up g * down d) (suc m * up d * down g)
unfolding div
over true p g m d = rw (eqb-suc-zero m) refl
over false p g m d = rw (eqb-suc-zero m) refl

-- a zero divided
zero_over : (s : Bool) (n : ℕ) (x : Float) → Whole n x → div binary32 (fin s 0 (pos 0)) x ≡ fin s 0 (pos 0)
zero_over s n x (whole {m} {d} h) =
    over s 0 (pos 0) m d
    ∙ ap (λ z. round binary32 s z (suc m * up d * 1)) (zero-mul (down d))
    ∙ round_zero s _ (mul-pos (mul-pos (zero-lt-suc m) (up_pos d)) (zero-lt-suc 0))

zero_times : (s : Bool) (m : ℕ) (e : ℤ) → product 0 (fin s m e) ≡ fin s 0 (pos 0)
unfolding product mul of_int round
zero_times true m e = rw (zero-mul (m * up e)) (round_zero true _ (mul-pos (zero-lt-suc 0) (down_pos e)))
zero_times false m e = rw (zero-mul (m * up e)) (round_zero false _ (mul-pos (zero-lt-suc 0) (down_pos e)))

-- x is n times the float y, and nothing was lost
unfoldable pub ExactlyTimes : ℕ → Float → Float → Type 0
ExactlyTimes n nan x = ⊥
ExactlyTimes n (inf s) x = ⊥
ExactlyTimes n (fin s m e) x = HasValue x s (n * (m * up e)) (down e)

regroup : (n a g d : ℕ) → n * a * g * d ≡ a * (n * d * g)
regroup n a g d = simp (mul_assoc, mul_comm, mul_left_comm)

times_over : (n : ℕ) (y x z : Float) → T (fits binary32 y) → ExactlyTimes n y x → Whole n z → div binary32 x z ≡ y
unfolding ExactlyTimes
times_over n nan x z t v w = absurd v
times_over n (inf s) x z t v w = absurd v
times_over n (fin s m e) nan z t v w = absurd v
times_over n (fin s m e) (inf u) z t v w = absurd v
times_over n (fin s m e) (fin u p g) z t v (whole {m = k} {d = d} h) =
    let same : p * up g * down d * down e ≡ m * up e * (suc k * up d * down g) =
    mul_right_comm (p * up g) (down d) (down e)
    ∙ ap (λ x. x * down d) v.1
    ∙ regroup n (m * up e) (down g) (down d)
    ∙ ap (λ x. m * up e * (x * down g)) (sym h) in
    over u p g k d
    ∙ ap (λ b. round binary32 b (p * up g * down d) (suc k * up d * down g)) v.0
    ∙ round_same binary32 s _ _ (m * up e) (down e)
    (mul-pos (mul-pos (zero-lt-suc k) (up_pos d)) (down_pos g)) (down_pos e) same
    ∙ round_own s m e t

exact_finite : (n : ℕ) (y x : Float) → ExactlyTimes n y x → finite x ≡ true
unfolding ExactlyTimes
exact_finite n nan x v = absurd v
exact_finite n (inf s) x v = absurd v
exact_finite n (fin s m e) nan v = absurd v
exact_finite n (fin s m e) (inf u) v = absurd v
exact_finite n (fin s m e) (fin u p g) v = refl

unfoldable pub negative : Float → Bool
negative nan = false
negative (inf s) = s
negative (fin s m e) = s

-- a rounded fraction is a number or an infinity
units_number : (s : Bool) (q k : ℕ) → T (not (is_nan (units binary32 s q k)))
unfolding units odd is_nan
units_number s q k = go (ltb (q * 2 ^ k) (2 ^ 277)) q
  where
    go : (b : Bool) (q : ℕ) → T (not (is_nan (cond b (odd 25 s q k 149) (inf s))))
    go false q = tt
    go true zero = tt
    go true (suc q) = tt

quotient-number : (width : ℕ) (x : Float) → 1 ≤ width → width ≤ 24 → finite x ≡ true → T (not (is_nan (quotient width x)))
unfolding quotient
quotient-number width x h l e = go x _ e (full_float width h l)
  where
    go : (x z : Float) → finite x ≡ true → Whole (full width) z → T (not (is_nan (div binary32 x z)))
    go nan z e w = absurd (false≢true e)
    go (inf s) z e w = absurd (false≢true e)
    go (fin s p g) z e (whole {m = k} {d = d} q) = rw (over s p g k d, round_is binary32 s _ _) (units_number s _ _)

-- a field of 1 to 24 bits with a value that fits is not refused with 44
readable-field : (width value : ℕ) → 1 ≤ width → width ≤ 24 → value ≤ full width → unreadable 2 width value ≡ false
unfolding unreadable
readable-field width value h l v =
    rw (ne_eqb width 0 (λ z. omega arith), le-ltb 24 width l, le-ltb (full width) value v) refl

finite_maximum : (minimum maximum : ℕ) → bad_bounds (bounds_of minimum maximum) ≡ false → finite (of_bits binary32 maximum) ≡ true
unfolding bad_bounds bounds_of
finite_maximum minimum maximum =
    go (finite (of_bits binary32 minimum)) (finite (of_bits binary32 maximum)) (lt (of_bits binary32 minimum) (of_bits binary32 maximum))
  where
    go : (x y z : Bool) → not x || not y || not z ≡ false → y ≡ true
    go x true z e = refl
    go true false z e = absurd (true≢false e)
    go false false z e = absurd (true≢false e)

module _ (width minimum maximum : ℕ) (h : 1 ≤ width) (l : width ≤ 24) (good : bad_bounds (bounds_of minimum maximum) ≡ false) where
  abbrev top : Float
  top = of_bits binary32 maximum

  reads : (value : ℕ) (p : Float) → value ≤ full width → product value top ≡ p → finite p ≡ true
      → reading 2 width value minimum maximum ≡ shown (quotient width p)
  unfolding scaled bounds_of
  reads value p v e f = sound 2 width value minimum maximum (readable-field width value h l v) good ∙ rw (e, f) refl

  -- A value of 0 reads a zero, of the maximum's sign.
  pub zero_reads : reading 2 width 0 minimum maximum ≡ shown (fin (negative top) 0 (pos 0))
  unfolding quotient negative
  zero_reads =
      reads 0 _ (omega arith) (go top (finite_maximum minimum maximum good)) refl
      ∙ ap shown (zero_over (negative top) (full width) _ (full_float width h l))
    where
      go : (y : Float) → finite y ≡ true → product 0 y ≡ fin (negative y) 0 (pos 0)
      go nan e = absurd (false≢true e)
      go (inf s) e = absurd (false≢true e)
      go (fin s m e) q = zero_times s m e

  -- The full value of a width reads the maximum where the product is exact.
  pub full-reads : ExactlyTimes (full width) top (product (full width) top)
      → reading 2 width (full width) minimum maximum ≡ shown top
  unfolding quotient
  full-reads e =
      reads (full width) _ (omega arith) refl (exact_finite (full width) top _ e)
      ∙ ap shown (times_over (full width) top _ _ (of_bits-fits binary32 maximum) e (full_float width h l))

never : {n k : ℕ} {x : Float} → refused n k ≡ shown x → ⊥
never h = let z : ◌≡◌ {A = ℕ} 0 1 = cc in omega arith

-- No reading is a NaN, so that its bits are defined.
pub shown-number : (kind width value minimum maximum : ℕ) (x : Float)
    → reading kind width value minimum maximum ≡ shown x → T (not (is_nan x))
unfolding reading scaled
shown-number kind width value minimum maximum x =
    go (unreadable kind width value) (bad_bounds (bounds_of minimum maximum)) (finite p) refl refl
  where
    p : Float
    p = product value (bounds_of minimum maximum).maximum

    go : (a b c : Bool) → unreadable kind width value ≡ a → finite p ≡ c
        → cond a (refused 44 0) (cond b (refused 45 0) (cond c (shown (quotient width p)) (refused 46 0))) ≡ shown x
        → T (not (is_nan x))
    go true b c u f h = absurd (never h)
    go false true c u f h = absurd (never h)
    go false false false u f h = absurd (never h)
    go false false true u f h =
        let r = readable kind width value u in
        let q : quotient width p ≡ x = cc in
        rw q at (quotient-number width p r.least r.wide f)
