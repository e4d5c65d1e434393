-- A cue list's records. A record is a step: doing a record alone is doing that step.
use Rattle.std.specs.Prelude.{ℕ, zero, suc, ◌+◌, List, [], ◌∷◌, Bool, not, ◌||◌, ◌&&◌, cond, length, take, drop, get_or, eqb, ltb}
use Rattle.lbp16.specs.Space.{Space, space_of, space_number, is_absent, row}
use Rattle.packet.specs.Bytes.{number}
use Rattle.packet.specs.Step.{Kind, Step, carried, is_write, is_status}
use Rattle.packet.specs.Rules.{Rule, first, misaligned, past_end, barred}
use Rattle.packet.specs.Command.{pick_kind}
use Rattle.cue.specs.declared.records.Record.{Record}

-- the marks "RD" and "WR", as numbers low byte first
abbrev pub read_mark : ℕ
read_mark = 0x4452

abbrev pub write_mark : ℕ
write_mark = 0x5257

unfoldable pub mark_at : List ℕ → ℕ
mark_at rest = number (take 2 rest)

unfoldable pub record_kind : List ℕ → Kind
record_kind rest = pick_kind (eqb (mark_at rest) write_mark)

-- mark, space, spare, address; of a write the value too
unfoldable pub record_bytes : Kind → ℕ
record_bytes k = cond (is_write k) 10 6

unfoldable pub record_space : List ℕ → Space
record_space rest = space_of (get_or rest 2 0)

unfoldable pub bytes_of_value : List ℕ → List ℕ
bytes_of_value rest = take 4 (drop 6 rest)

-- A 2-byte element takes the value's lower half.
unfoldable pub record_step : List ℕ → Step
record_step rest =
    let k = record_kind rest in
    let s = record_space rest in
    record { kind = k; space = s; address = number (take 2 (drop 4 rest)); bytes = take (carried k s) (bytes_of_value rest) }

-- what a record names, a write's value apart; and the same of its step
unfoldable pub record_at : List ℕ → Record
record_at rest =
    record { write = eqb (mark_at rest) write_mark; space = get_or rest 2 0; address = number (take 2 (drop 4 rest)) }

unfoldable pub brief : Step → Record
brief x = record { write = is_write x.kind; space = space_number x.space; address = x.address }

-- The cells that a list may not name: the unlock cell and the packet count, 0x1A and 0x0A of space 6.
unfoldable pub reserved : Step → Bool
reserved x = (eqb x.address 0x1A || eqb x.address 0x0A) && is_status x.space

-- refusal 23
unfoldable pub bad_element : Step → Bool
bad_element x =
    is_absent x.space || misaligned (row x.space) x.address || past_end x || barred x || reserved x

-- the part of the value that the element has no room for
unfoldable pub upper_half : List ℕ → ℕ
upper_half rest = number (drop (row (record_space rest)).element (bytes_of_value rest))

-- the most records that a list may have
abbrev pub most_records : ℕ
most_records = 100000

-- Refusals 21 to 24 of the record with this index, at the list's bytes from it on.
unfoldable pub record_refusals : ℕ → List ℕ → List Rule
record_refusals index rest =
    let k = record_kind rest in
    record { number = 21; holds = eqb index most_records }
    ∷ record {
      number = 22;
      holds = (not (eqb (mark_at rest) read_mark) && not (eqb (mark_at rest) write_mark)) || ltb (length rest) (record_bytes k);
    }
    ∷ record { number = 23; holds = bad_element (record_step rest) }
    ∷ record { number = 24; holds = not (eqb (get_or rest 3 0) 0) || (is_write k && not (eqb (upper_half rest) 0)) }
    ∷ []

-- A list's records, or the refusal of the earliest bad one, and there the lowest number.
pub data Listed : Type 0 where
  refused : ℕ → ℕ → Listed
  records : List Step → Listed

unfoldable pub with_record : Step → Listed → Listed
with_record x (refused n i) = refused n i
with_record x (records xs) = records (x ∷ xs)

abbrev pub listed_at : ℕ → ℕ → Listed → Listed
listed_at zero index v = v
listed_at (suc n) index v = refused (suc n) index

-- `fuel` bounds the number of records; as many as there are bytes is enough.
unfoldable pub records_from : ℕ → ℕ → List ℕ → Listed
records_from zero index rest = records []
records_from (suc fuel) index [] = records []
records_from (suc fuel) index (b ∷ bs) =
    let rest = b ∷ bs in
    listed_at (first (record_refusals index rest)) index
    (with_record (record_step rest) (records_from fuel (index + 1) (drop (record_bytes (record_kind rest)) rest)))

unfoldable pub records_of : List ℕ → Listed
records_of list = records_from (length list) 0 list

-- What a list's bytes name, taken apart by the marks alone; a good list's records. Of as many bytes as `fuel` at most.
unfoldable pub cut_from : ℕ → List ℕ → List Record
cut_from zero rest = []
cut_from (suc fuel) [] = []
cut_from (suc fuel) (b ∷ bs) =
    let rest = b ∷ bs in
    record_at rest ∷ cut_from fuel (drop (record_bytes (record_kind rest)) rest)

unfoldable pub cut_up : List ℕ → List Record
cut_up list = cut_from (length list) list
