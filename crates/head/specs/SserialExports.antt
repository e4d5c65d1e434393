-- What the exports of daughter card fields return and leave.
use Rattle.std.specs.Prelude.{ℕ, ◌%◌, ◌^◌, List, [], ◌∷◌, ◌++◌, map, cond, length, take, drop, eqb, ltb}
use Rattle.lbp16.specs.Answer.{Answer, accepted}
use Rattle.head.specs.Exports.{number_of}
use Rattle.sserial.specs.Table.{Checked, refused, laid, directed}
use Rattle.sserial.specs.Calls.{Outcome, indexed, packed_to, unpacked_to}
use Rattle.sserial.specs.declared.table.Field.{Field}
use Rattle.sserial.specs.declared.table.Direction.{Direction}
use Rattle.sserial.specs.declared.table.Direction.TheVariants.{Inputs, Outputs}

-- All that head_table returns and leaves: both counts 0 if refused.
pub record TableExport : Type 0 where
  pub number : ℕ
  pub inputs : ℕ
  pub outputs : ℕ

abbrev pub table_left : ℕ → ℕ → ℕ → TableExport
table_left number inputs outputs = record { number = number; inputs = inputs; outputs = outputs }

unfoldable pub export_table : Checked → TableExport
export_table (refused n) = table_left n 0 0
export_table (laid fs) = table_left 0 (length (directed Inputs fs)) (length (directed Outputs fs))

-- where only the boundary's own rule is broken: the table's refusal, or else 40
unfoldable pub or_refused : Checked → Answer
or_refused (refused n) = Answer.refused n 0
or_refused (laid fs) = Answer.refused 40 0

-- All that head_field, head_pack and head_unpack return, and leave in what they write.
pub record CallExport : Type 0 where
  pub number : ℕ
  pub left : List ℕ

abbrev pub call_left : ℕ → List ℕ → CallExport
call_left number left = record { number = number; left = left }

-- A field as seven words: width, type, direction, minimum and maximum, and the places of unit and name, their low 32 bits.
abbrev pub low_word : ℕ → ℕ
low_word n = n % 2 ^ 32

unfoldable pub field_words : Field → List ℕ
field_words f = f.width ∷ f.kind ∷ f.direction ∷ f.minimum ∷ f.maximum ∷ low_word f.unit ∷ low_word f.name ∷ []

unfoldable pub shown_in : Answer → List ℕ → CallExport
shown_in (accepted vs) room = call_left 0 (take 5 vs ++ map low_word (drop 5 vs))
shown_in (Answer.refused n place) room = call_left n room

-- the index-th field, if there is room for exactly seven words
unfoldable pub export_field : Checked → ℕ → List ℕ → CallExport
export_field k index room = shown_in (cond (eqb (length room) 7) (indexed k index) (or_refused k)) room

unfoldable pub exported : Outcome → CallExport
exported o = call_left (number_of o.answer) o.left

unfoldable pub direction_of : ℕ → Direction
direction_of d = cond (eqb d 0) Inputs Outputs

-- 40 also for a direction other than 0 and 1
unfoldable pub export_call : Checked → ℕ → List ℕ → (Direction → Outcome) → CallExport
export_call k direction lent call =
    cond (ltb 1 direction) (call_left (number_of (or_refused k)) lent) (exported (call (direction_of direction)))

unfoldable pub export_pack : Checked → ℕ → ℕ → List ℕ → List ℕ → CallExport
export_pack k direction channel values registers = export_call k direction registers (λ d. packed_to k d channel values registers)

unfoldable pub export_unpack : Checked → ℕ → ℕ → List ℕ → List ℕ → CallExport
export_unpack k direction channel registers values = export_call k direction values (λ d. unpacked_to k d channel registers values)
