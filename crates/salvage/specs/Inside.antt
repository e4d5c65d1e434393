-- The inside of private functions' contracts.
use Rattle.std.specs.Prelude.{ℕ, ◌+◌, ◌/◌, ◌≤◌, ◌<◌, List, [], ◌∷◌, true, false, cond, length, take}
use Rattle.salvage.specs.Salvage.{Stretch, kept, skipped, entries}
use Rattle.salvage.specs.declared.scan.Span.{Span}
use Rattle.salvage.specs.declared.scan.Counts.{Counts}

-- a stretch by its length alone
unfoldable pub span_of : Stretch → Span
span_of (kept r) = record { kept = true; bytes = length r }
span_of (skipped bs) = record { kept = false; bytes = length bs }

-- the first of these stretches, and of no bytes where there is none
unfoldable pub first_span : List Stretch → Span
first_span [] = record { kept = false; bytes = 0 }
first_span (s ∷ ss) = span_of s

-- the bytes skipped before the first record
unfoldable pub gap_of : List Stretch → ℕ
gap_of [] = 0
gap_of (kept r ∷ ss) = 0
gap_of (skipped bs ∷ ss) = length bs

-- the counts with one stretch more
unfoldable pub tally : Counts → Span → Counts
tally c s =
    cond s.kept (record { records = c.records + 1; bytes = c.bytes + s.bytes; entries = c.entries })
    (record { records = c.records; bytes = c.bytes; entries = c.entries + 1 })

-- they can be counted on
pub record Roomy (c : Counts) (s : Span) : Type 0 where
  pub records : c.records + 1 < 18446744073709551616
  pub bytes : c.bytes + s.bytes < 18446744073709551616
  pub entries : c.entries + 1 < 18446744073709551616

-- what a stretch adds to the output, from the list's bytes from it on, and to the log
unfoldable pub record_part : Span → List ℕ → List ℕ
record_part s rest = cond s.kept (take s.bytes rest) []

unfoldable pub entry_part : Span → ℕ → List ℕ
entry_part s at = cond s.kept [] (at ∷ s.bytes ∷ [])

-- both rooms are large enough
pub record Ready (list room log : List ℕ) : Type 0 where
  pub bytes : length list ≤ length room
  pub numbers : entries list ≤ length log / 2
