-- The file of the card's pointers.
use Rattle.std.specs.Prelude.{ℕ, ◌+◌, List, take, drop}
use Rattle.lbp16.specs.Pointer.{pointer}
use Rattle.lbp16.specs.declared.pointer.SpacePointers.{SpacePointers}
use Rattle.lbp16.specs.declared.pointer.Pointers.{Pointers}
use Rattle.packet.specs.Bytes.{number}

-- the number in four bytes, low byte first
unfoldable pub quad_at : List ℕ → ℕ → ℕ
quad_at file at = number (take 4 (drop at file))

-- those of spaces 0, 2, 6 and 7
unfoldable pub spaces_in : List ℕ → ℕ → SpacePointers
spaces_in file at =
    record {
      registers = pointer (quad_at file at);
      eeprom = pointer (quad_at file (at + 4));
      status = pointer (quad_at file (at + 8));
      information = pointer (quad_at file (at + 12));
    }

-- and then those of their info areas
unfoldable pub pointers_in : List ℕ → Pointers
pointers_in file = record { plain = spaces_in file 0; info = spaces_in file 16 }
