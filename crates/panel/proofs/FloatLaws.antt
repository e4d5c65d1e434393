-- What is seen of a float by its bits and by comparisons.
use Prim.Native.Nat.{ℕ, zero, suc, ◌+◌, ◌/◌, ◌%◌, ◌^◌}
use mathlib.Core.Path.{◌≡◌, refl, sym, ap, ◌∙◌}
use mathlib.Core.Bool.{Bool, true, false, not, ◌&&◌, cond, false≢true}
use lib.Dec.{T, eqb, leb}
use lib.Pow.{field}
use lib.Ieee.{Float, nan, inf, fin, binary32, odd, of_fields, of_bits, nan_bits, is_nan, lt}
use lib.Ieee.Bits.{nan_bits_is}
use lib.Ieee.Scale.{finite}

finite_odd : (d : ℕ) (s : Bool) (q k l : ℕ) → finite (odd d s q k l) ≡ true
unfolding odd
finite_odd d s zero k l = refl
finite_odd d s (suc q) k l = refl

-- finite where the exponent's field is not all ones
finite_fields : (s : Bool) (x t : ℕ) → finite (of_fields binary32 s x t) ≡ not (eqb x 255)
unfolding of_fields
finite_fields s zero t = finite_odd 24 s t 0 149
finite_fields s (suc x) t = go (eqb (suc x) 255) (eqb t 0)
  where
    go : (top none : Bool)
        → finite (cond top (cond none (inf s) nan) (odd 24 s (8388608 + t) x 149)) ≡ not top
    go true true = refl
    go true false = refl
    go false none = finite_odd 24 s (8388608 + t) x 149

pub finite_bits : (b : ℕ) → not (eqb (b / 8388608 % 256) 255) ≡ finite (of_bits binary32 b)
unfolding of_bits
finite_bits b =
    sym
    (finite_fields (leb (2 ^ 31) b) (b % 2 ^ 31 / 2 ^ 23) (b % 2 ^ 23)
    ∙ ap (λ x. not (eqb x 255)) (field b 8 23))

not_nan : (x : Float) → finite x ≡ true → T (not (is_nan x))
unfolding is_nan
not_nan nan h = absurd (false≢true h)
not_nan (inf s) h = tt
not_nan (fin s m e) h = tt

pub not_nan_bits : (b : ℕ) → finite (of_bits binary32 b) ≡ true → T (not (nan_bits binary32 b))
not_nan_bits b h = rw (nan_bits_is binary32 b) (not_nan (of_bits binary32 b) h)

-- between the infinities
pub finite_between : (x : Float)
    → lt x (of_bits binary32 0x7F800000) && lt (of_bits binary32 0xFF800000) x ≡ finite x
unfolding of_bits lt
finite_between nan = refl
finite_between (inf true) = refl
finite_between (inf false) = refl
finite_between (fin s m e) = refl
