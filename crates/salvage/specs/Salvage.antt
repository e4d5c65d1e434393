-- Saving what can be saved of a damaged cue list.
use Rattle.std.specs.Prelude.{ℕ, zero, suc, ◌+◌, ◌/◌, List, [], ◌∷◌, ◌++◌, Bool, cond, length, take, drop, eqb, ltb, Result, Ok, Err}
use Rattle.lbp16.specs.Answer.{Answer, refusal}
use Rattle.packet.specs.Rules.{first}
use Rattle.cue.specs.Records.{record_refusals, record_kind, record_bytes}
use Rattle.salvage.specs.declared.scan.Counts.{Counts}
use Rattle.lbp16.specs.declared.Refusal.{Refusal}
use Rattle.salvage.specs.declared.Kept.{Kept}

-- Whether a record that passes 22 to 24 stands at the front. It is judged as a list's first, so that 21 plays no part.
unfoldable pub stands : List ℕ → Bool
stands rest = eqb (first (record_refusals 0 rest)) 0

unfoldable pub size_at : List ℕ → ℕ
size_at rest = record_bytes (record_kind rest)

-- A list falls into stretches: the bytes of a record kept, or bytes skipped.
pub data Stretch : Type 0 where
  kept skipped : List ℕ → Stretch

-- One byte skipped in front of these; touching stretches are one.
unfoldable pub skip : ℕ → List Stretch → List Stretch
skip b [] = skipped (b ∷ []) ∷ []
skip b (kept r ∷ ss) = skipped (b ∷ []) ∷ kept r ∷ ss
skip b (skipped bs ∷ ss) = skipped (b ∷ bs) ∷ ss

-- The scan: a record is kept, and the scan goes on behind it; at any other byte, that byte is skipped. `fuel` bounds
-- the number of turns; as many as there are bytes is enough.
unfoldable pub scan_from : ℕ → List ℕ → List Stretch
scan_from zero rest = []
scan_from (suc fuel) [] = []
scan_from (suc fuel) (b ∷ bs) =
    let rest = b ∷ bs in
    cond (stands rest) (kept (take (size_at rest) rest) ∷ scan_from fuel (drop (size_at rest) rest)) (skip b (scan_from fuel bs))

unfoldable pub scan : List ℕ → List Stretch
scan list = scan_from (length list) list

-- the output: the kept records' bytes, in order
unfoldable pub bytes_of_kept : List Stretch → List ℕ
bytes_of_kept [] = []
bytes_of_kept (kept r ∷ ss) = r ++ bytes_of_kept ss
bytes_of_kept (skipped bs ∷ ss) = bytes_of_kept ss

-- the log: of each skipped stretch its start, counted from `at`, and its length
unfoldable pub log_from : ℕ → List Stretch → List ℕ
log_from at [] = []
log_from at (kept r ∷ ss) = log_from (at + length r) ss
log_from at (skipped bs ∷ ss) = at ∷ length bs ∷ log_from (at + length bs) ss

-- how many records are kept, and how many stretches skipped
unfoldable pub kept_count : List Stretch → ℕ
kept_count [] = 0
kept_count (kept r ∷ ss) = suc (kept_count ss)
kept_count (skipped bs ∷ ss) = kept_count ss

unfoldable pub entry_count : List Stretch → ℕ
entry_count [] = 0
entry_count (kept r ∷ ss) = entry_count ss
entry_count (skipped bs ∷ ss) = suc (entry_count ss)

unfoldable pub counted : List Stretch → Counts
counted ss = record { records = kept_count ss; bytes = length (bytes_of_kept ss); entries = entry_count ss }

unfoldable pub output : List ℕ → List ℕ
output list = bytes_of_kept (scan list)

unfoldable pub logged : List ℕ → List ℕ
logged list = log_from 0 (scan list)

unfoldable pub entries : List ℕ → ℕ
entries list = entry_count (scan list)

-- All that a salvage answers and leaves.
pub record Salvaged : Type 0 where
  pub answer : Answer
  pub room : List ℕ
  pub log : List ℕ

-- Refusal 26, then 27; else output and log stand at the front of their rooms. A log entry is two numbers.
unfoldable pub salvaged : List ℕ → List ℕ → List ℕ → Salvaged
salvaged list room log =
    cond (ltb (length room) (length list))
    (record { answer = Answer.refused 26 (length list); room = room; log = log })
    (cond (ltb (length log / 2) (entries list))
    (record { answer = Answer.refused 27 (entries list); room = room; log = log })
    (record {
      answer = Answer.accepted (length (output list) ∷ entries list ∷ []);
      room = output list ++ drop (length (output list)) room;
      log = logged list ++ drop (length (logged list)) log;
    }))

-- an answer of the code as the papers list it
unfoldable pub salvage_listed : Result Kept Refusal → Answer
salvage_listed (Ok k) = Answer.accepted (k.bytes ∷ k.entries ∷ [])
salvage_listed (Err r) = refusal r

-- what a salvage by the code answers and leaves
abbrev pub left : Result Kept Refusal → List ℕ → List ℕ → Salvaged
left a room log = record { answer = salvage_listed a; room = room; log = log }
