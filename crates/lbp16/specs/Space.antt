-- The spaces of the card store. Spaces 1, 3, 4 and 5 are absent.
use Rattle.std.specs.Prelude.{ℕ, Bool, true, false, cond, eqb}
use Rattle.lbp16.specs.declared.space.Row.{Row}
use Rattle.lbp16.specs.declared.space.Space.{Space as SpaceName}
use Rattle.lbp16.specs.declared.space.Space.TheVariants.{Registers, Eeprom, Status, Information, Absent}

pub data Space : Type 0 where
  registers eeprom status information absent : Space

unfoldable pub space_of : ℕ → Space
space_of n =
    cond (eqb n 0) registers
    (cond (eqb n 2) eeprom (cond (eqb n 6) status (cond (eqb n 7) information absent)))

-- the code's name for a space
abbrev pub space_named : SpaceName → Space
space_named Registers = registers
space_named Eeprom = eeprom
space_named Status = status
space_named Information = information
space_named Absent = absent

-- a space's number in a command word; one of the absent spaces' for those
unfoldable pub space_number : Space → ℕ
space_number registers = 0
space_number eeprom = 2
space_number status = 6
space_number information = 7
space_number absent = 1

unfoldable pub is_absent : Space → Bool
is_absent registers = false
is_absent eeprom = false
is_absent status = false
is_absent information = false
is_absent absent = true

-- The table: place in the store, bytes, bytes of an element with their size code, and access. The first `read_only`
-- bytes are read only: in space 2 those below 0x20, in space 7 all. Where `locked`, the rest is written when unlocked.
unfoldable pub row : Space → Row
row registers = record { place = 0; bytes = 65536; element = 4; size = 2; read_only = 0; locked = false }
row eeprom = record { place = 65536; bytes = 128; element = 2; size = 1; read_only = 0x20; locked = true }
row status = record { place = 65664; bytes = 32; element = 2; size = 1; read_only = 0; locked = false }
row information = record { place = 65696; bytes = 32; element = 2; size = 1; read_only = 32; locked = false }
row absent = record { place = 0; bytes = 0; element = 1; size = 0; read_only = 0; locked = false }

-- An info area: eight numbers of two bytes, read only. It stands in no store, so its place is 0.
unfoldable pub info_row : Row
info_row = record { place = 0; bytes = 16; element = 2; size = 1; read_only = 16; locked = false }

-- the line of a space, or that of its info area
unfoldable pub area_row : Bool → Space → Row
area_row false s = row s
area_row true s = info_row

-- the bytes of the whole store
abbrev pub store_bytes : ℕ
store_bytes = 65728
