-- The inside of private functions' contracts: a table with a mark for each cell, two bits for each two bytes of the store.
use Rattle.std.specs.Prelude.{ℕ, ◌+◌, ◌*◌, ◌/◌, ◌%◌, ◌<◌, ◌≡◌, List, Bool, false, not, ◌||◌, ◌&&◌, cond, length, get_or, eqb}
use Rattle.lbp16.specs.Space.{space_of, is_absent, row}
use Rattle.packet.specs.Step.{Step}
use Rattle.cue.specs.Records.{records, records_of}
use Rattle.cue.specs.declared.records.Record.{Record}
use Rattle.independent.specs.Independent.{Cell, names, writes}

pub record Accepted (list : List ℕ) : Type 0 where
  pub xs : List Step
  pub list-records : records_of list ≡ records xs

-- a cell that the card has
pub record Present (c : Cell) : Type 0 where
  pub space : is_absent c.space ≡ false
  pub inside : c.address < (row c.space).bytes
  pub aligned : c.address % (row c.space).element ≡ 0

-- where a cell stands in the store, and the same of a record as the code reads it
unfoldable pub place_of : Cell → ℕ
place_of c = (row c.space).place + c.address

unfoldable pub place_by : Record → ℕ
place_by r = (row (space_of r.space)).place + r.address

-- A cell's mark: 2 if a record writes it, 1 if one names it and none writes it, 0 if none names it.
unfoldable pub mark_by : Bool → Bool → ℕ
mark_by named written = cond written 2 (cond named 1 0)

-- the mark of a cell that one more record names
unfoldable pub marked_by : ℕ → Bool → ℕ
marked_by old write = cond (write || eqb old 2) 2 1

-- whether a record clashes with those that left this mark at its cell
unfoldable pub clashes_with : ℕ → Bool → Bool
clashes_with mark write = eqb mark 2 || (write && not (eqb mark 0))

-- a byte of the table has four marks
unfoldable pub mark_in : ℕ → ℕ → ℕ
mark_in byte slot =
    cond (eqb slot 0) (byte % 4) (cond (eqb slot 1) (byte / 4 % 4) (cond (eqb slot 2) (byte / 16 % 4) (byte / 64 % 4)))

-- the byte with another mark in one slot
unfoldable pub picked : ℕ → ℕ → ℕ → ℕ → ℕ
picked byte slot mark k = cond (eqb slot k) mark (mark_in byte k)

unfoldable pub with_mark : ℕ → ℕ → ℕ → ℕ
with_mark byte slot mark =
    picked byte slot mark 0 + 4 * picked byte slot mark 1 + 16 * picked byte slot mark 2 + 64 * picked byte slot mark 3

-- where the mark of the cell at a place stands: the byte, and the slot in it
abbrev pub byte_of : ℕ → ℕ
byte_of place = place / 8

abbrev pub slot_of : ℕ → ℕ
slot_of place = place / 2 % 4

unfoldable pub mark_at : List ℕ → ℕ → ℕ
mark_at marks place = mark_in (get_or marks (byte_of place) 0) (slot_of place)

-- the bytes of the table
abbrev pub table_bytes : ℕ
table_bytes = 8216

-- the records' marks, each at its cell's place
pub record Marked (xs : List Step) (marks : List ℕ) : Type 0 where
  pub bytes : length marks ≡ table_bytes
  pub held : (c : Cell) → Present c → mark_at marks (place_of c) ≡ mark_by (names xs c) (writes xs c)
