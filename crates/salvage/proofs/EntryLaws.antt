-- Laws of the log: its entries are not empty and do not touch, and are few.
use Prim.Native.Nat.{ℕ, ◌+◌, ◌*◌, ◌≤◌}
use mathlib.Core.List.{List, [], ◌∷◌}
use native.Mathlib.Omega.{arith}
use lib.ListN.{length, length-append}
use lib.Seq.{length-take-le}
use Rattle.salvage.specs.Salvage.{Stretch, kept, skipped, skip, scan, bytes_of_kept, kept_count, entry_count, log_from, logged, entries, output}
use Rattle.salvage.proofs.ScanLaws.{by-scan, stands-whole, size-some, bytes_of, joined, covered}

-- no skipped stretch in front
Opens : List Stretch → Type 0
Opens [] = Unit
Opens (kept r ∷ ss) = Unit
Opens (skipped bs ∷ ss) = ⊥

-- A record has six bytes or more, a skipped stretch some, and behind it stands a record, or nothing.
Apart : List Stretch → Type 0
Apart [] = Unit
Apart (kept r ∷ ss) = (6 ≤ length r) × Apart ss
Apart (skipped bs ∷ ss) = (1 ≤ length bs) × Opens ss × Apart ss

apart-skip : (b : ℕ) (ss : List Stretch) → Apart ss → Apart (skip b ss)
unfolding skip Apart Opens
apart-skip b [] a = (omega arith, tt, tt)
apart-skip b (kept r ∷ ss) a = (omega arith, tt, a)
apart-skip b (skipped bs ∷ ss) a = (omega arith, a.1, a.2)

apart : (list : List ℕ) → Apart (scan list)
unfolding Apart
apart =
    by-scan (λ list ss. Apart ss) tt
    (λ rest ss e a.
    let l = length-take-le _ rest (stands-whole rest e) in
    let n = size-some rest in
    (omega arith, a))
    (λ b bs ss e a. apart-skip b ss a)

-- Entries in order, none empty, from n on and up to `end`, and at least a record's six bytes between two.
pub data Spaced (end : ℕ) : ℕ → List ℕ → Type 0 where
  none : {n : ℕ} → Spaced end n []
  entry : {n start bytes : ℕ} {log : List ℕ} → n ≤ start → 1 ≤ bytes → start + bytes ≤ end
      → Spaced end (start + bytes + 6) log → Spaced end n (start ∷ bytes ∷ log)

spaced-from : (end n at : ℕ) (ss : List Stretch) → Apart ss → n ≤ at → at + length (joined ss) ≤ end → Spaced end n (log_from at ss)
unfolding log_from Apart Opens joined bytes_of
spaced-from end n at [] a h k = Spaced.none
spaced-from end n at (kept r ∷ ss) a h k =
    let l = simp length-append at k in
    spaced-from end n (at + length r) ss a.1 (omega arith) (omega arith)
spaced-from end n at (skipped bs ∷ []) a h k =
    let l = simp length-append at k in
    Spaced.entry h a.0 (omega arith) Spaced.none
spaced-from end n at (skipped bs ∷ kept r ∷ ss) a h k =
    let l = simp length-append at k in
    Spaced.entry h a.0 (omega arith)
    (spaced-from end (at + length bs + 6) (at + length bs + length r) ss a.2.1 (omega (arith, a.2.0)) (omega arith))
spaced-from end n at (skipped bs ∷ skipped cs ∷ ss) a h k = absurd a.1

-- No two entries touch, none is empty, and all stand within the list.
pub spaced : (list : List ℕ) → Spaced (length list) 0 (logged list)
unfolding logged
spaced list = spaced-from (length list) 0 0 (scan list) (apart list) (omega arith) (rw covered (omega arith))

few-from : (ss : List Stretch) → Apart ss → 7 * entry_count ss ≤ length (joined ss) + 6
unfolding entry_count joined bytes_of Apart Opens
few-from [] a = omega arith
few-from (kept r ∷ ss) a = rw length-append (omega (arith, few-from ss a.1))
few-from (skipped bs ∷ []) a = rw length-append (omega (arith, a.0))
few-from (skipped bs ∷ kept r ∷ ss) a = let f = few-from ss a.2.1 in rw (length-append, length-append) (omega (arith, a.0, a.2.0))
few-from (skipped bs ∷ skipped cs ∷ ss) a = absurd a.1

-- At most one entry for each seven bytes.
pub few-entries : (list : List ℕ) → 7 * entries list ≤ length list + 6
unfolding entries
few-entries list = let f = few-from (scan list) (apart list) in rw covered at f

-- The output is never longer than the list.
kept-within : (ss : List Stretch) → length (bytes_of_kept ss) ≤ length (joined ss)
unfolding bytes_of_kept joined bytes_of
kept-within [] = omega arith
kept-within (kept r ∷ ss) = let h = kept-within ss in rw (length-append, length-append) (omega arith)
kept-within (skipped bs ∷ ss) = let h = kept-within ss in rw length-append (omega arith)

pub output-length : (list : List ℕ) → length (output list) ≤ length list
unfolding output
output-length list = let h = kept-within (scan list) in rw covered at h

-- A record has six bytes or more, so there are fewer records than bytes.
records-from : (ss : List Stretch) → Apart ss → kept_count ss ≤ length (bytes_of_kept ss)
unfolding bytes_of_kept kept_count Apart
records-from [] a = omega arith
records-from (kept r ∷ ss) a = rw length-append (omega (arith, a.0, records-from ss a.1))
records-from (skipped bs ∷ ss) a = records-from ss a.2

pub records-few : (list : List ℕ) → kept_count (scan list) ≤ length (output list)
unfolding output
records-few list = records-from (scan list) (apart list)
