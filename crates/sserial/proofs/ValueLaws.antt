-- One field's value and its bits, over the width.
use Prim.Native.Nat.{ℕ, zero, suc, ◌+◌, ◌-◌, ◌*◌, ◌/◌, ◌%◌, ◌^◌, ◌≤◌, ◌<◌}
use mathlib.Core.Path.{◌≡◌, refl, sym, ap, ◌∙◌}
use mathlib.Core.Bool.{Bool, true, false, ◌||◌, ◌&&◌, cond}
use native.Mathlib.Omega.{arith}
use native.Mathlib.Nat.{mod-eq_of_lt, mod-lt, pow-suc, div-lt_iff_lt-mul}
use mathlib.Core.Logic.{◌↔◌}
use Rattle.lbp16.proofs.BoolLaws.{same_ltb, and_true}
use native.Mathlib.Numerals.{sub-one}
use lib.Pow.{pow_pos, pow_mono, mod-pow-add, high_ones, low}
use lib.Dec.{ltb, leb}
use borrow.Author.Tests.{ltb-true, leb-true, leb-false, lt-ltb, le-ltb, le-leb, lt-leb}
use Rattle.sserial.specs.Layout.{is_signed, value_of, bits_of, in_range}
use Rattle.sserial.specs.Inside.{Wide}
use Rattle.sserial.specs.declared.table.Field.{Field}

pub twice_half : (w : ℕ) → 1 ≤ w → 2 ^ w ≡ 2 ^ (w - 1) + 2 ^ (w - 1)
twice_half zero h = absurd (omega arith)
twice_half (suc k) h = rw (sub-one, pow-suc) (omega arith)

-- the bits above a width, all set, are a multiple of two to the width
pub above : (w : ℕ) → w ≤ 64 → 2 ^ 64 - 2 ^ w ≡ (2 ^ (64 - w) - 1) * 2 ^ w
above w h = let e : 64 - w + w ≡ 64 = omega arith in rw e at (high_ones (64 - w) w)

module _ (f : Field) (ok : Wide f) where
  half : 2 ^ f.width ≡ 2 ^ (f.width - 1) + 2 ^ (f.width - 1)
  half = twice_half f.width ok.least

  under : 2 ^ f.width ≤ 2 ^ 64
  under = pow_mono ok.most

  -- a number of the width's bits, with every higher bit of 64 set, keeps these bits
  pub low_bits : (b : ℕ) → b < 2 ^ f.width → bits_of f (2 ^ 64 - 2 ^ f.width + b) ≡ b
  unfolding bits_of
  low_bits b h = rw (above f.width ok.most) (low _ f.width h)

  pub value-back : (v : ℕ) → v < 2 ^ 64 → in_range f v ≡ true → value_of f (bits_of f v) ≡ v
  unfolding value_of in_range bits_of
  value-back v fits = go (is_signed f)
    where
      small : (s : Bool) → v < 2 ^ f.width → (s && leb (2 ^ (f.width - 1)) v) ≡ false
          → cond (s && leb (2 ^ (f.width - 1)) (bits_of f v)) (2 ^ 64 - 2 ^ f.width + bits_of f v) (bits_of f v) ≡ v
      small s h e = rw (mod-eq_of_lt h, e)

      negative : 2 ^ 64 - 2 ^ (f.width - 1) ≤ v
          → cond (leb (2 ^ (f.width - 1)) (bits_of f v)) (2 ^ 64 - 2 ^ f.width + bits_of f v) (bits_of f v) ≡ v
      negative h =
          let p = half in
          let u = under in
          let b : ℕ = v - (2 ^ 64 - 2 ^ f.width) in
          let e : v ≡ 2 ^ 64 - 2 ^ f.width + b = omega arith in
          let d : bits_of f v ≡ b = ap (bits_of f) e ∙ low_bits b (omega arith) in
          rw (d, le-leb (2 ^ (f.width - 1)) b (omega arith)) (sym e)

      signed : (t : Bool) → ltb v (2 ^ (f.width - 1)) ≡ t → (t || leb (2 ^ 64 - 2 ^ (f.width - 1)) v) ≡ true
          → cond (leb (2 ^ (f.width - 1)) (bits_of f v)) (2 ^ 64 - 2 ^ f.width + bits_of f v) (bits_of f v) ≡ v
      signed true e r =
          let p = half in
          let h : v < 2 ^ (f.width - 1) = ltb-true _ _ e in
          small true (omega arith) (lt-leb _ _ h)
      signed false e r = negative (leb-true _ _ r)

      go : (s : Bool)
          → cond s (ltb v (2 ^ (f.width - 1)) || leb (2 ^ 64 - 2 ^ (f.width - 1)) v) (ltb v (2 ^ f.width)) ≡ true
          → cond (s && leb (2 ^ (f.width - 1)) (bits_of f v)) (2 ^ 64 - 2 ^ f.width + bits_of f v) (bits_of f v) ≡ v
      go true r = signed (ltb v (2 ^ (f.width - 1))) refl r
      go false r = small false (ltb-true _ _ r) refl

  -- what a field's bits read as: in its range, of 64 bits, and with the same bits
  pub record Read (b v : ℕ) : Type 0 where
    pub range : in_range f v ≡ true
    pub fits : v < 2 ^ 64
    pub back : bits_of f v ≡ b

  pub bits_back : (b : ℕ) → b < 2 ^ f.width → Read b (value_of f b)
  unfolding value_of in_range bits_of
  bits_back b h = go (is_signed f) (leb (2 ^ (f.width - 1)) b) refl refl
    where
      same : bits_of f b ≡ b
      same = mod-eq_of_lt h

      go : (s t : Bool) → is_signed f ≡ s → leb (2 ^ (f.width - 1)) b ≡ t → Read b (cond (s && t) (2 ^ 64 - 2 ^ f.width + b) b)
      go true true e d =
          let p = half in
          let u = under in
          let m : 2 ^ (f.width - 1) ≤ b = leb-true _ _ d in
          let v : ℕ = 2 ^ 64 - 2 ^ f.width + b in
          let n : ltb v (2 ^ (f.width - 1)) ≡ false = le-ltb v (2 ^ (f.width - 1)) (omega arith) in
          record {
            range = rw (e, n) (le-leb (2 ^ 64 - 2 ^ (f.width - 1)) v (omega arith));
            fits = omega arith;
            back = low_bits b h;
          }
      go true false e d =
          let u = under in
          record { range = rw (e, lt-ltb _ _ (leb-false _ _ d)) refl; fits = omega arith; back = same }
      go false t e d = let u = under in record { range = rw e (lt-ltb _ _ h); fits = omega arith; back = same }

  -- the same by h, half of what the width's bits can count
  module _ (h : ℕ) (e : h ≡ 2 ^ (f.width - 1)) where
    pub half-positive : 0 < h
    half-positive = rw e (pow_pos (f.width - 1))

    pub half_twice : 2 ^ f.width ≡ h + h
    half_twice = rw e half

    pub half-under : h + h ≤ 2 ^ 64
    half-under = rw half_twice at under

    pub bits-by_half : (v : ℕ) → v % h + v / h % 2 * h ≡ bits_of f v
    unfolding bits_of
    bits-by_half v =
        let w : 1 + (f.width - 1) ≡ f.width = let l = ok.least in omega arith in
        let s : v % 2 ^ f.width ≡ v / 2 ^ (f.width - 1) % 2 * 2 ^ (f.width - 1) + v % 2 ^ (f.width - 1) = rw w at (mod-pow-add v 1 (f.width - 1)) in
        rw (e, s) (omega arith)

    pub bits_fit : (v : ℕ) → v % h + v / h % 2 * h < 2 ^ 64
    unfolding bits_of
    bits_fit v = let u = under in let b : v % 2 ^ f.width < 2 ^ f.width = mod-lt v (pow_pos f.width) in rw (bits-by_half v) (omega arith)

    pub range-signed : (v : ℕ) → is_signed f ≡ true → (ltb v h || ltb (18446744073709551615 - h) v) ≡ in_range f v
    unfolding in_range
    range-signed v s =
        let t : suc (18446744073709551615 - h) ≡ 2 ^ 64 - h = let u = half-under in omega arith in
        rw (s, ← e, ← t) refl

    pub range-plain : (v : ℕ) → is_signed f ≡ false → ltb (v / h) 2 ≡ in_range f v
    unfolding in_range
    range-plain v s =
        let d : (v / h < 2) ↔ (v < 2 * h) = div-lt_iff_lt-mul half-positive in
        rw (s, half_twice)
        (same_ltb (v / h) 2 v (h + h) (λ l. let r = d.0 l in omega arith) (λ l. let r : v < 2 * h = omega arith in d.1 r))

    module _ (b : ℕ) (t : Bool) (s : t ≡ is_signed f) where
      pub value-above : (t && leb h b) ≡ true → h ≤ b
      value-above n = leb-true _ _ (and_true t (leb h b) n).1

      pub value-negative : (t && leb h b) ≡ true → b - h + (18446744073709551615 - h) + 1 ≡ value_of f b
      unfolding value_of
      value-negative n = let u = half-under in let a = value-above n in rw (← s, ← e, n, half_twice) (omega arith)

      pub value-plain : (t && leb h b) ≡ false → b ≡ value_of f b
      unfolding value_of
      value-plain n = rw (← s, ← e, n) refl
