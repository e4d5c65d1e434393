-- A field's reading: a float of IEEE 754's binary32, in the toolchain's account of that standard.
use Rattle.std.specs.Prelude.{ℕ, ◌-◌, ◌^◌, Bool, not, ◌||◌, cond, pos, eqb, ltb, Float, Result, Ok, Err}
use Rattle.std.specs.Float.{binary32}
use Rattle.std.specs.Float.Ieee.{of_bits, of_int, mul, div, lt}
use Rattle.std.specs.Float.Ieee.Scale.{finite}
use Rattle.lbp16.specs.Answer.{rule_number}
use Rattle.lbp16.specs.declared.Refusal.{Refusal}
use Rattle.panel.specs.declared.reading.Bounds.{Bounds}

-- A reading, or the refusal's number and place.
pub data Shown : Type 0 where
  shown : Float → Shown
  refused : ℕ → ℕ → Shown

abbrev pub refused_by : Refusal → Shown
refused_by r = refused (rule_number r.rule) r.place

unfoldable pub reading_listed : Result Float Refusal → Shown
reading_listed (Ok x) = shown x
reading_listed (Err r) = refused_by r

-- the largest value of a width
abbrev pub full : ℕ → ℕ
full width = 2 ^ width - 1

-- Refusal 44: not of type UNSIGNED, not of 1 to 24 bits, or a value too large for its width.
unfoldable pub unreadable : ℕ → ℕ → ℕ → Bool
unreadable kind width value = not (eqb kind 2) || eqb width 0 || ltb 24 width || ltb (full width) value

-- the bounds that the table's bits stand for
unfoldable pub bounds_of : ℕ → ℕ → Bounds
bounds_of minimum maximum = record { minimum = of_bits binary32 minimum; maximum = of_bits binary32 maximum }

-- Refusal 45: a bound that isn't finite, or a maximum not above the minimum.
unfoldable pub bad_bounds : Bounds → Bool
bad_bounds b = not (finite b.minimum) || not (finite b.maximum) || not (lt b.minimum b.maximum)

-- The value as a float, times the maximum, and this divided by the full value as a float. Each step is rounded once.
unfoldable pub product : ℕ → Float → Float
product value maximum = mul binary32 (of_int binary32 (pos value)) maximum

unfoldable pub quotient : ℕ → Float → Float
quotient width product = div binary32 product (of_int binary32 (pos (full width)))

-- Refusal 46: a product that isn't finite.
unfoldable pub scaled : ℕ → ℕ → Bounds → Shown
scaled width value b =
    cond (finite (product value b.maximum)) (shown (quotient width (product value b.maximum))) (refused 46 0)

-- `kind` is the field's data type; `minimum` and `maximum` are the bits of the table.
unfoldable pub reading : ℕ → ℕ → ℕ → ℕ → ℕ → Shown
reading kind width value minimum maximum =
    cond (unreadable kind width value) (refused 44 0)
    (cond (bad_bounds (bounds_of minimum maximum)) (refused 45 0) (scaled width value (bounds_of minimum maximum)))
