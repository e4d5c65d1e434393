-- What is wrong with a cue list: the compiler's refusal, where the record at fault begins, and the first cause that holds there.
use Rattle.std.specs.Prelude.{ℕ, zero, suc, ◌+◌, ◌≡◌, List, [], ◌∷◌, Bool, not, ◌&&◌, cond, length, take, drop, get_or, eqb, ltb}
use Rattle.lbp16.specs.Space.{space_of, is_absent, row}
use Rattle.packet.specs.Step.{Step, is_write, is_status}
use Rattle.packet.specs.Rules.{Rule, first, misaligned, past_end, barred}
use Rattle.packet.specs.Command.{pick_kind}
use Rattle.cue.specs.Records.{Listed, refused, records, records_of, record_step, record_kind, record_bytes, mark_at, read_mark, write_mark, upper_half}

-- Causes of 22: the mark is unknown; the record is cut. Of a single byte no mark can be told.
unfoldable pub mark_causes : List ℕ → List Rule
mark_causes rest =
    let m = mark_at rest in
    record { number = 1; holds = not (ltb (length rest) 2) && not (eqb m read_mark) && not (eqb m write_mark) }
    ∷ record { number = 2; holds = ltb (length rest) (record_bytes (record_kind rest)) }
    ∷ []

-- Causes of 23: no such space; misaligned; past the end; read-only; the unlock cell; the packet count.
unfoldable pub element_causes : Step → List Rule
element_causes x =
    record { number = 1; holds = is_absent x.space }
    ∷ record { number = 2; holds = misaligned (row x.space) x.address }
    ∷ record { number = 3; holds = past_end x }
    ∷ record { number = 4; holds = barred x }
    ∷ record { number = 5; holds = eqb x.address 0x1A && is_status x.space }
    ∷ record { number = 6; holds = eqb x.address 0x0A && is_status x.space }
    ∷ []

-- an element by what is named of it, since 23 asks no value
abbrev pub element_named : Bool → ℕ → ℕ → Step
element_named write? s a = record { kind = pick_kind write?; space = space_of s; address = a; bytes = [] }

-- Causes of 24: the spare byte is not 0; the value is too wide.
unfoldable pub value_causes : List ℕ → List Rule
value_causes rest =
    record { number = 1; holds = not (eqb (get_or rest 3 0) 0) }
    ∷ record { number = 2; holds = is_write (record_kind rest) && not (eqb (upper_half rest) 0) }
    ∷ []

-- those of a refusal, at the list's bytes from the record on; 21 has none
unfoldable pub causes_of : ℕ → List ℕ → List Rule
causes_of n rest =
    cond (eqb n 22) (mark_causes rest) (cond (eqb n 23) (element_causes (record_step rest)) (cond (eqb n 24) (value_causes rest) []))

-- where the record with this index begins: behind those before it
unfoldable pub offset_of : ℕ → List ℕ → ℕ
offset_of zero list = 0
offset_of (suc index) list = let n = record_bytes (record_kind list) in n + offset_of index (drop n list)

-- How far a list is good: the records and bytes before the one that is refused, with the number; or all, with 0.
pub record Reached : Type 0 where
  pub number : ℕ
  pub records : ℕ
  pub bytes : ℕ

unfoldable pub walked_by : List ℕ → Listed → Reached
walked_by list (refused n index) = record { number = n; records = index; bytes = offset_of index list }
walked_by list (records xs) = record { number = 0; records = length xs; bytes = length list }

unfoldable pub walked : List ℕ → Reached
walked list = walked_by list (records_of list)

-- What is wrong: the compiler's number and place, the offset of the record's first byte, and the cause. All 0 where nothing is.
pub record ListWhy : Type 0 where
  pub number : ℕ
  pub place : ℕ
  pub offset : ℕ
  pub cause : ℕ

unfoldable pub why_by : List ℕ → Listed → ListWhy
why_by list (refused n index) =
    let at = offset_of index list in
    record { number = n; place = index; offset = at; cause = first (causes_of n (drop at list)) }
why_by list (records xs) = record { number = 0; place = 0; offset = 0; cause = 0 }

unfoldable pub list_why : List ℕ → ListWhy
list_why list = why_by list (records_of list)

-- The records before the one at fault, alone, are an accepted list.
abbrev pub FrontGood : List ℕ → ℕ → ℕ → Type 0
FrontGood list place offset = (xs : List Step) × (records_of (take offset list) ≡ records xs) × (length xs ≡ place)
