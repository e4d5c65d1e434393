-- The address pointers, kept between packets: each space has one, and another for its info area.
use Rattle.std.specs.Prelude.{ℕ, ◌+◌, min, Bool, true, false, ◌||◌, cond, List, [], ◌∷◌, ◌++◌, ltb, get_or}
use Rattle.lbp16.specs.Space.{Space, registers, eeprom, status, information, absent, area_row}
use Rattle.lbp16.specs.declared.pointer.Pointer.{Pointer}
use Rattle.lbp16.specs.declared.pointer.SpacePointers.{SpacePointers}
use Rattle.lbp16.specs.declared.pointer.Pointers.{Pointers}

-- A pointer's number is 32 bits wide. A sum past that stays at the top: it never wraps.
unfoldable pub advanced : ℕ → ℕ → ℕ
advanced at n = min (at + n) 4294967295

abbrev pub pointer : ℕ → Pointer
pointer n = record { at = n }

unfoldable pub fresh_spaces : SpacePointers
fresh_spaces = record { registers = pointer 0; eeprom = pointer 0; status = pointer 0; information = pointer 0 }

unfoldable pub fresh : Pointers
fresh = record { plain = fresh_spaces; info = fresh_spaces }

unfoldable pub of_space : SpacePointers → Space → ℕ
of_space p registers = p.registers.at
of_space p eeprom = p.eeprom.at
of_space p status = p.status.at
of_space p information = p.information.at
of_space p absent = 0

unfoldable pub with_space : SpacePointers → Space → ℕ → SpacePointers
with_space p registers n =
    record { registers = pointer n; eeprom = p.eeprom; status = p.status; information = p.information }
with_space p eeprom n =
    record { registers = p.registers; eeprom = pointer n; status = p.status; information = p.information }
with_space p status n =
    record { registers = p.registers; eeprom = p.eeprom; status = pointer n; information = p.information }
with_space p information n =
    record { registers = p.registers; eeprom = p.eeprom; status = p.status; information = pointer n }
with_space p absent n = p

-- the pointer of a space, or that of its info area
unfoldable pub pointer_of : Pointers → Bool → Space → ℕ
pointer_of p false s = of_space p.plain s
pointer_of p true s = of_space p.info s

unfoldable pub with_pointer : Pointers → Bool → Space → ℕ → Pointers
with_pointer p false s n = record { plain = with_space p.plain s n; info = p.info }
with_pointer p true s n = record { plain = p.plain; info = with_space p.info s n }

-- a pointer above its space's size, or above that of the info area
unfoldable pub over : SpacePointers → Bool → Space → Bool
over p info s = ltb (area_row info s).bytes (of_space p s)

unfoldable pub some_over : SpacePointers → Bool → Bool
some_over p info = over p info registers || over p info eeprom || over p info status || over p info information

-- the part of refusal 1 that looks at pointers
unfoldable pub above_size : Pointers → Bool
above_size p = some_over p.plain false || some_over p.info true

-- Eight pointers, and back: those of spaces 0, 2, 6 and 7, in this order, then those of their info areas.
unfoldable pub spaces_at : List ℕ → ℕ → SpacePointers
spaces_at ps i =
    record {
      registers = pointer (get_or ps i 0);
      eeprom = pointer (get_or ps (i + 1) 0);
      status = pointer (get_or ps (i + 2) 0);
      information = pointer (get_or ps (i + 3) 0);
    }

unfoldable pub pointers_of : List ℕ → Pointers
pointers_of ps = record { plain = spaces_at ps 0; info = spaces_at ps 4 }

unfoldable pub lent_spaces : SpacePointers → List ℕ
lent_spaces p = p.registers.at ∷ p.eeprom.at ∷ p.status.at ∷ p.information.at ∷ []

unfoldable pub lent_pointers : Pointers → List ℕ
lent_pointers p = lent_spaces p.plain ++ lent_spaces p.info

-- where a pointer stands among the eight; that of a space that the card lacks is none of them
unfoldable pub space_slot : Space → ℕ
space_slot registers = 0
space_slot eeprom = 1
space_slot status = 2
space_slot information = 3
space_slot absent = 8

unfoldable pub slot_of : Bool → Space → ℕ
slot_of info s = cond info (space_slot s + 4) (space_slot s)
