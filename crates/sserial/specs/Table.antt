-- A card's process table, read from the card's memory. Document 000's descriptor section decides the layout.
use Rattle.std.specs.List.{position_or_len}
use Rattle.std.specs.Prelude.{ℕ, ◌+◌, ◌*◌, List, [], ◌∷◌, Bool, false, ◌||◌, ◌&&◌, cond, length, drop, get_or, eqb, ltb}
use Rattle.sserial.specs.declared.table.Field.{Field}
use Rattle.sserial.specs.declared.table.Entry.{Entry}
use Rattle.sserial.specs.declared.table.Entry.TheVariants.{End, Unreadable, Mode}
use Rattle.sserial.specs.declared.table.Direction.{Direction}
use Rattle.sserial.specs.declared.table.Direction.TheVariants.{Inputs, Outputs}

-- a byte, and numbers of two and of four bytes, low byte first; a byte not lent counts as 0
abbrev pub byte_at : List ℕ → ℕ → ℕ
byte_at memory at = get_or memory at 0

abbrev pub pair_at : List ℕ → ℕ → ℕ
pair_at memory at = byte_at memory at + 256 * byte_at memory (at + 1)

abbrev pub quad_at : List ℕ → ℕ → ℕ
quad_at memory at = pair_at memory at + 65536 * pair_at memory (at + 2)

-- the bytes before the first NUL
abbrev pub text_bytes : List ℕ → ℕ
text_bytes bs = position_or_len (λ b. eqb b 0) bs

-- the place of the NUL that ends the string at a place; it stands past the memory's end where it is not lent
unfoldable pub nul_of : List ℕ → ℕ → ℕ
nul_of memory at = at + text_bytes (drop at memory)

-- The field's record: type, size, data type, direction, minimum, maximum, address of the parameter, unit, name.
abbrev pub unit_place : ℕ → ℕ
unit_place p = p + 14

unfoldable pub name_place : List ℕ → ℕ → ℕ
name_place memory p = nul_of memory (unit_place p) + 1

unfoldable pub field_of : List ℕ → ℕ → Field
field_of memory p =
    record {
      width = byte_at memory (p + 1);
      kind = byte_at memory (p + 2);
      direction = byte_at memory (p + 3);
      minimum = quad_at memory (p + 4);
      maximum = quad_at memory (p + 8);
      unit = unit_place p;
      name = name_place memory p;
    }

abbrev pub is_direction : ℕ → Bool
is_direction d = eqb d 0x00 || eqb d 0x40 || eqb d 0x80

-- A record is sound if its last byte, its name's NUL, is lent, and so all before it, and its type and direction are in the document.
unfoldable pub sound_field : List ℕ → ℕ → Bool
sound_field memory p =
    ltb (nul_of memory (name_place memory p)) (length memory) && ltb (byte_at memory (p + 2)) 8
    && is_direction (byte_at memory (p + 3))

-- The mode's record: type, index, mode type, unused, name.
unfoldable pub sound_mode : List ℕ → ℕ → Bool
sound_mode memory p = ltb (nul_of memory (p + 4)) (length memory) && ltb (byte_at memory (p + 2)) 2

unfoldable pub record_at : List ℕ → ℕ → Entry
record_at memory p =
    cond (eqb (byte_at memory p) 0xA0) (cond (sound_field memory p) (Entry.Field (field_of memory p)) Unreadable)
    (cond (eqb (byte_at memory p) 0xB0) (cond (sound_mode memory p) Mode Unreadable) Unreadable)

-- an entry of the table: the place of a record, or 0 at the table's end
unfoldable pub entry_of : List ℕ → ℕ → Entry
entry_of memory p = cond (eqb p 0) End (record_at memory p)

-- The table's fields in order, or that it needs a byte not lent or has a record that is not in the document.
pub data Table : Type 0 where
  unreadable : Table
  fields : List Field → Table

unfoldable pub with_field : Field → Table → Table
with_field f unreadable = unreadable
with_field f (fields fs) = fields (f ∷ fs)

-- A mode holds no field.
unfoldable pub with_entry : Entry → Table → Table
with_entry End t = fields []
with_entry Unreadable t = unreadable
with_entry Mode t = t
with_entry (Entry.Field f) t = with_field f t

-- the table whose entries are the bytes from here on
unfoldable pub table_from : List ℕ → List ℕ → Table
table_from memory [] = unreadable
table_from memory (a ∷ []) = unreadable
table_from memory (a ∷ b ∷ rest) = with_entry (entry_of memory (a + 256 * b)) (table_from memory rest)

unfoldable pub table_at : List ℕ → ℕ → Table
table_at memory at = table_from memory (drop at memory)

-- The fields of one direction, in order, and the bits that they take.
unfoldable pub stands_in : Direction → Field → Bool
stands_in Inputs f = eqb f.direction 0x00 || eqb f.direction 0x40
stands_in Outputs f = eqb f.direction 0x80 || eqb f.direction 0x40

unfoldable pub directed : Direction → List Field → List Field
directed d [] = []
directed d (f ∷ fs) = cond (stands_in d f) (f ∷ directed d fs) (directed d fs)

unfoldable pub bits : List Field → ℕ
bits [] = 0
bits (f ∷ fs) = f.width + bits fs

unfoldable pub any_miswide : List Field → Bool
any_miswide [] = false
any_miswide (f ∷ fs) = eqb f.width 0 || ltb 64 f.width || any_miswide fs

-- refusal 42
unfoldable pub overfull : List Field → Bool
overfull fs = any_miswide fs || ltb 96 (bits (directed Inputs fs)) || ltb 96 (bits (directed Outputs fs))

-- A table is refused whole, with 41 or else with 42, or its fields are laid out.
pub data Checked : Type 0 where
  refused : ℕ → Checked
  laid : List Field → Checked

unfoldable pub checked : Table → Checked
checked unreadable = refused 41
checked (fields fs) = cond (overfull fs) (refused 42) (laid fs)

unfoldable pub checked_at : List ℕ → ℕ → Checked
checked_at memory at = checked (table_at memory at)
