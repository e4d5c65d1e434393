-- What a call answers and leaves. The registers are three words for each of eight channels, one channel after the other.
use Rattle.std.specs.Prelude.{ℕ, ◌*◌, List, [], ◌∷◌, Bool, not, ◌||◌, cond, length, take, drop, eqb, ltb, Result, Ok, Err}
use Rattle.std.proofs.lemmas.List.Edits.{sets}
use Rattle.lbp16.specs.Answer.{Answer, accepted, refusal}
use Rattle.lbp16.specs.declared.Refusal.{Refusal}
use Rattle.sserial.specs.Table.{Checked, refused, laid, directed}
use Rattle.sserial.specs.Layout.{joined, words_of, packed, unpacked, fitting}
use Rattle.sserial.specs.declared.table.Field.{Field}
use Rattle.sserial.specs.declared.table.Direction.{Direction}
use Rattle.sserial.specs.declared.table.Direction.TheVariants.{Inputs, Outputs}
use Rattle.sserial.specs.declared.count.FieldCounts.{FieldCounts}

-- how many fields each way
unfoldable pub counted : Checked → Answer
counted (refused n) = Answer.refused n 0
counted (laid fs) = accepted (length (directed Inputs fs) ∷ length (directed Outputs fs) ∷ [])

unfoldable pub table_listed : Result FieldCounts Refusal → Answer
table_listed (Ok counts) = accepted (counts.inputs ∷ counts.outputs ∷ [])
table_listed (Err r) = refusal r

-- the index-th field, modes not counted; 40 for an index past the last
unfoldable pub shown : Field → List ℕ
shown f =
    f.width ∷ f.kind ∷ f.direction ∷ f.minimum ∷ f.maximum ∷ f.unit ∷ f.name ∷ []

unfoldable pub front : List Field → Answer
front [] = Answer.refused 40 0
front (f ∷ fs) = accepted (shown f)

unfoldable pub indexed : Checked → ℕ → Answer
indexed (refused n) index = Answer.refused n 0
indexed (laid fs) index = front (drop index fs)

unfoldable pub field_listed : Result Field Refusal → Answer
field_listed (Ok f) = accepted (shown f)
field_listed (Err r) = refusal r

-- 40 of either call: a channel above 7, or registers that are not 24 words
unfoldable pub no_channel : ℕ → List ℕ → Bool
no_channel channel registers = ltb 7 channel || not (eqb (length registers) 24)

-- All that a call answers, and what it leaves in the registers or the values lent.
pub record Outcome : Type 0 where
  pub answer : Answer
  pub left : List ℕ

-- A call on a table's fields of one direction; where the table is refused, what was lent stays.
unfoldable pub called_on : Checked → Direction → List ℕ → (List Field → Outcome) → Outcome
called_on (refused n) d lent call = record { answer = Answer.refused n 0; left = lent }
called_on (laid fs) d lent call = call (directed d fs)

-- The fields of one direction into one channel. All 96 bits of the channel are written; unused ones are 0.
unfoldable pub packed_by : List Field → ℕ → List ℕ → List ℕ → Outcome
packed_by fs channel values registers =
    cond (no_channel channel registers || not (fitting fs values))
    (record { answer = Answer.refused 40 0; left = registers })
    (record { answer = accepted []; left = sets registers (3 * channel) (words_of 3 (packed fs values)) })

unfoldable pub packed_to : Checked → Direction → ℕ → List ℕ → List ℕ → Outcome
packed_to k d channel values registers = called_on k d registers (λ fs. packed_by fs channel values registers)

-- the fields of one direction from one channel
unfoldable pub unpacked_by : List Field → ℕ → List ℕ → List ℕ → Outcome
unpacked_by fs channel registers values =
    cond (no_channel channel registers || not (eqb (length values) (length fs)))
    (record { answer = Answer.refused 40 0; left = values })
    (record { answer = accepted []; left = unpacked fs (joined (take 3 (drop (3 * channel) registers))) })

unfoldable pub unpacked_to : Checked → Direction → ℕ → List ℕ → List ℕ → Outcome
unpacked_to k d channel registers values = called_on k d values (λ fs. unpacked_by fs channel registers values)

unfoldable pub call_listed : Result Unit Refusal → Answer
call_listed (Ok u) = accepted []
call_listed (Err r) = refusal r

-- what a call of the code answers and leaves
abbrev pub called : Result Unit Refusal → List ℕ → Outcome
called a left = record { answer = call_listed a; left = left }
