-- What the info areas show.
use Prim.Native.Nat.{ℕ, ◌^◌}
use mathlib.Core.Path.{◌≡◌, refl}
use mathlib.Core.List.{[], ◌∷◌}
use mathlib.Core.Bool.{false}
use lib.ListN.{replicate}
use Rattle.lbp16.specs.Space.{Space, registers, eeprom, status, information, absent, space_number, row, is_absent}
use Rattle.lbp16.specs.Word.{bit}
use Rattle.lbp16.specs.Info.{memory_type, mem_sizes, mem_ranges, area_words}
use native.Mathlib.Omega.{arith}

-- the power of two shown is that of the space's bytes
pub range-is : (s : Space) → is_absent s ≡ false → 2 ^ mem_ranges s ≡ (row s).bytes
unfolding mem_ranges row is_absent
range-is registers e = refl
range-is eeprom e = refl
range-is status e = refl
range-is information e = refl
range-is absent e = let z : ◌≡◌ {A = ℕ} 0 1 = cc in absurd (omega arith)

-- the areas of the four spaces; a pointer past the end of space 0 shows as 0
pub area_registers : area_words registers 0x10000 ≡ 0x5A00 ∷ 0x8104 ∷ 16 ∷ 0 ∷ 0 ∷ 0 ∷ 0 ∷ 0 ∷ []
unfolding area_words is_absent space_number mem_sizes memory_type mem_ranges row bit
area_registers = refl

pub area_eeprom : area_words eeprom 0x20 ≡ 0x5A02 ∷ 0x8E02 ∷ 7 ∷ 0x20 ∷ 0 ∷ 0 ∷ 0 ∷ 0 ∷ []
unfolding area_words is_absent space_number mem_sizes memory_type mem_ranges row bit
area_eeprom = refl

pub area_status : area_words status 0x1A ≡ 0x5A06 ∷ 0x8102 ∷ 5 ∷ 0x1A ∷ 0 ∷ 0 ∷ 0 ∷ 0 ∷ []
unfolding area_words is_absent space_number mem_sizes memory_type mem_ranges row bit
area_status = refl

pub area_information : area_words information 0 ≡ 0x5A07 ∷ 0x0002 ∷ 5 ∷ 0 ∷ 0 ∷ 0 ∷ 0 ∷ 0 ∷ []
unfolding area_words is_absent space_number mem_sizes memory_type mem_ranges row bit
area_information = refl

-- no cookie for a space that no card has
pub area_absent : (pointer : ℕ) → area_words absent pointer ≡ replicate 8 0
unfolding area_words is_absent
area_absent pointer = refl
