-- The inside of private functions' contracts. Laws in proofs/ tie it to the definitions of Table.antt.
use Rattle.std.specs.Prelude.{ℕ, zero, suc, ◌+◌, ◌*◌, ◌≤◌, ◌<◌, ◌≡◌, List, [], ◌∷◌, ◌++◌, ◌||◌, cond, length, take, drop, eqb, ltb, Option, Some, None}
use Rattle.lbp16.specs.Answer.{Answer, accepted, refused}
use Rattle.sserial.specs.Table.{Table, unreadable, fields, directed, stands_in}
use Rattle.sserial.specs.Table.{bits, any_miswide, pair_at, entry_of, sound_field, sound_mode, field_of}
use Rattle.sserial.specs.declared.table.Field.{Field}
use Rattle.sserial.specs.declared.table.Entry.{Entry}
use Rattle.sserial.specs.declared.table.Entry.TheVariants.{End, Unreadable, Mode}
use Rattle.sserial.specs.declared.table.Direction.{Direction}
use Rattle.sserial.specs.declared.table.Direction.TheVariants.{Inputs, Outputs}
use Rattle.sserial.specs.declared.field.Fields.{Fields}
use Rattle.sserial.specs.declared.field.Directed.{Directed}
use Rattle.sserial.specs.declared.count.Sum.{Sum}
use Rattle.sserial.specs.declared.count.Sums.{Sums}

unfoldable pub field_record : List ℕ → ℕ → Entry
field_record memory p = cond (sound_field memory p) (Entry.Field (field_of memory p)) Unreadable

unfoldable pub mode_record : List ℕ → ℕ → Entry
mode_record memory p = cond (sound_mode memory p) Mode Unreadable

-- what stands at the entry at a place of the memory
unfoldable pub entry_at : List ℕ → ℕ → Entry
entry_at memory at = cond (ltb (length memory) (at + 2)) Unreadable (entry_of memory (pair_at memory at))

-- the fields from an entry on, up to the table's end or to an entry that is unreadable, and those of one direction
unfoldable pub met : Entry → List Field → List Field
met End fs = []
met Unreadable fs = []
met Mode fs = fs
met (Entry.Field f) fs = f ∷ fs

unfoldable pub met_from : List ℕ → List ℕ → List Field
met_from memory [] = []
met_from memory (a ∷ []) = []
met_from memory (a ∷ b ∷ rest) = met (entry_of memory (a + 256 * b)) (met_from memory rest)

unfoldable pub fields_met : List ℕ → ℕ → List Field
fields_met memory at = met_from memory (drop at memory)

abbrev pub fields_ahead : Fields → List Field
fields_ahead s = fields_met s.memory.now s.at

abbrev pub directed_ahead : Directed → List Field
directed_ahead s = directed s.direction (fields_ahead s.fields)

-- The fields counted so far each way, and their bits, while these stay within 96.
pub record Small (s : Sum) : Type 0 where
  pub bits : s.bits ≤ 96
  pub fields : s.fields ≤ s.bits

pub record Within (s : Sums) : Type 0 where
  pub inputs : Small s.inputs
  pub outputs : Small s.outputs

unfoldable pub sum_with : Direction → Sum → Field → Sum
sum_with d s f = cond (stands_in d f) (record { fields = s.fields + 1; bits = s.bits + f.width }) s

unfoldable pub sums_with : Sums → Field → Option Sums
sums_with s f =
    let inputs = sum_with Inputs s.inputs f in
    let outputs = sum_with Outputs s.outputs f in
    cond (eqb f.width 0 || ltb 64 f.width || ltb 96 inputs.bits || ltb 96 outputs.bits) None
    (Some (record { inputs = inputs; outputs = outputs }))

unfoldable pub sums_more : Option Sums → Field → Option Sums
sums_more None f = None
sums_more (Some s) f = sums_with s f

unfoldable pub sums_answer : Option Sums → Answer
sums_answer None = refused 42 0
sums_answer (Some s) = accepted (s.inputs.fields ∷ s.outputs.fields ∷ [])

-- the answer if these entries follow
unfoldable pub count_on : Option Sums → Table → Answer
count_on None unreadable = refused 41 0
count_on None (fields fs) = refused 42 0
count_on (Some s) unreadable = refused 41 0
count_on (Some s) (fields fs) =
    let inputs = directed Inputs fs in
    let outputs = directed Outputs fs in
    cond (any_miswide fs || ltb 96 (s.inputs.bits + bits inputs) || ltb 96 (s.outputs.bits + bits outputs)) (refused 42 0)
    (accepted ((s.inputs.fields + length inputs) ∷ (s.outputs.fields + length outputs) ∷ []))

-- each number below a bound
pub data Each (n : ℕ) : List ℕ → Type 0 where
  none : Each n []
  more : {v : ℕ} {vs : List ℕ} → v < n → Each n vs → Each n (v ∷ vs)

-- a width that a field may have
pub record Wide (f : Field) : Type 0 where
  pub least : 1 ≤ f.width
  pub most : f.width ≤ 64

-- k rows of three words from place i on, and rows as words
unfoldable pub rows_from : ℕ → ℕ → List ℕ → List (List ℕ)
rows_from zero i ws = []
rows_from (suc k) i ws = take 3 (drop i ws) ∷ rows_from k (i + 3) ws

unfoldable pub flat : List (List ℕ) → List ℕ
flat [] = []
flat (r ∷ rs) = r ++ flat rs

pub data AllWide : List Field → Type 0 where
  none : AllWide []
  more : {f : Field} {fs : List Field} → Wide f → AllWide fs → AllWide (f ∷ fs)

-- n fields of one direction
pub record Packable (fs : List Field) (n : ℕ) : Type 0 where
  pub count : length fs ≡ n
  pub wide : AllWide fs
  pub fits : bits fs ≤ 96

abbrev pub chosen : Direction → ℕ → ℕ → ℕ
chosen Inputs i o = i
chosen Outputs i o = o
