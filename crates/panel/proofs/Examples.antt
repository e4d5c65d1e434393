-- The definitions at worked examples.
use mathlib.Core.Path.{◌≡◌, refl}
use mathlib.Core.List.{[], ◌∷◌}
use lib.Ieee.{binary32, of_bits, of_int, mul, div, lt}
use Rattle.lbp16.specs.Answer.{Answer, accepted}
use Rattle.panel.specs.Masks.{channels, names, those, named, lowest, none, outside, fails, tally_of, started, reported}
use Rattle.panel.specs.Reading.{shown, refused, unreadable, bounds_of, bad_bounds, product, quotient, scaled, reading}

-- channels 1, 2 and 3 asked; 0 and 2 failed
failed_2 : reported 0b1110 0b0101 ≡ record { asked = 3; failed = 1; lowest = 2 }
unfolding reported tally_of named channels names those lowest fails
failed_2 = refl

all_well : reported 0b1110 0b0001 ≡ record { asked = 3; failed = 0; lowest = 8 }
unfolding reported tally_of named channels names those lowest fails
all_well = refl

inside : started 0b0110 0b1110 ≡ accepted (0b0110 ∷ [])
unfolding started channels names those none outside
inside = refl

not_started : started 0b0110 0b1100 ≡ Answer.refused 43 0
unfolding started channels names those none outside
not_started = refl

-- 8 bits, 0.0 to 36.3: the full value reads 36.3, and 128 reads 18.221176
full_36 : reading 2 8 255 0 0x42113333 ≡ shown (of_bits binary32 0x42113333)
unfolding reading unreadable bounds_of bad_bounds product quotient scaled of_bits of_int mul div lt
full_36 = refl

half_36 : reading 2 8 128 0 0x42113333 ≡ shown (of_bits binary32 0x4191C4F8)
unfolding reading unreadable bounds_of bad_bounds product quotient scaled of_bits of_int mul div lt
half_36 = refl

-- -2.0 to -1.0: zero reads -0.0
zero_negative : reading 2 8 0 0xC0000000 0xBF800000 ≡ shown (of_bits binary32 0x80000000)
unfolding reading unreadable bounds_of bad_bounds product quotient scaled of_bits of_int mul div lt
zero_negative = refl

-- the nonvolatile type, 25 bits and a value too large, each with bounds that are refused too
others : (reading 4 8 1 0 0x7F800000 ≡ refused 44 0)
    × (reading 2 25 1 0 0x7F800000 ≡ refused 44 0)
    × (reading 2 8 256 0 0x7F800000 ≡ refused 44 0)
unfolding reading unreadable bounds_of bad_bounds product quotient scaled of_bits of_int mul div lt
others = (refl, refl, refl)

-- an infinite maximum, a NaN for a minimum, and bounds that are equal
bounds : (reading 2 8 1 0 0x7F800000 ≡ refused 45 0)
    × (reading 2 8 1 0x7FC00000 0x3F800000 ≡ refused 45 0)
    × (reading 2 8 1 0x3F800000 0x3F800000 ≡ refused 45 0)
unfolding reading unreadable bounds_of bad_bounds product quotient scaled of_bits of_int mul div lt
bounds = (refl, refl, refl)

-- twice the largest finite float
overflow : reading 2 8 2 0 0x7F7FFFFF ≡ refused 46 0
unfolding reading unreadable bounds_of bad_bounds product quotient scaled of_bits of_int mul div lt
overflow = refl
