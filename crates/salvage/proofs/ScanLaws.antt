-- Laws of the scan.
use Prim.Native.Nat.{ℕ, zero, suc, ◌≤◌, ◌<◌}
use mathlib.Core.Path.{◌≡◌, refl, sym, ap, ◌∙◌}
use mathlib.Core.List.{List, [], ◌∷◌, ◌++◌}
use mathlib.Core.Bool.{Bool, true, false}
use native.Mathlib.Omega.{arith}
use lib.ListN.{length, take, drop, length-drop, take-append-drop}
use lib.Seq.{length-take-le}
use borrow.Author.Tests.{eqb-true}
use Rattle.packet.specs.Rules.{first}
use Rattle.packet.specs.Step.{Kind, read, write, infoRead, is_write}
use Rattle.cue.specs.Records.{record_refusals, record_kind, record_bytes, record_step}
use Rattle.cue.proofs.RecordLaws.{whole}
use Rattle.salvage.specs.Salvage.{stands, size_at, Stretch, kept, skipped, skip, scan_from, scan}

-- a record has six bytes or more
record_size : (k : Kind) → 6 ≤ record_bytes k
unfolding record_bytes is_write
record_size read = omega arith
record_size infoRead = omega arith
record_size write = omega arith

pub size-some : (rest : List ℕ) → 6 ≤ size_at rest
unfolding size_at
size-some rest = record_size (record_kind rest)

-- no rule refuses a record that stands
pub stands-passes : (rest : List ℕ) → stands rest ≡ true → first (record_refusals 0 rest) ≡ 0
unfolding stands
stands-passes rest e = eqb-true _ _ e

pub stands-whole : (rest : List ℕ) → stands rest ≡ true → size_at rest ≤ length rest
unfolding size_at record_step
stands-whole rest e = (whole 0 rest (stands-passes rest e)).bytes

-- Any fuel that is enough gives the same stretches.
same-fuel : (j k : ℕ) (rest : List ℕ) → length rest ≤ j → length rest ≤ k → scan_from j rest ≡ scan_from k rest
unfolding scan_from
same-fuel zero zero [] a b = refl
same-fuel zero (suc k) [] a b = refl
same-fuel (suc j) zero [] a b = refl
same-fuel (suc j) (suc k) [] a b = refl
same-fuel zero k (x ∷ xs) a b = absurd (omega arith)
same-fuel (suc j) zero (x ∷ xs) a b = absurd (omega arith)
same-fuel (suc j) (suc k) (x ∷ xs) a b =
    let n = size-some (x ∷ xs) in
    let p : length (drop (size_at (x ∷ xs)) (x ∷ xs)) ≤ j = rw length-drop (omega arith) in
    let q : length (drop (size_at (x ∷ xs)) (x ∷ xs)) ≤ k = rw length-drop (omega arith) in
    rw (same-fuel j k (drop (size_at (x ∷ xs)) (x ∷ xs)) p q, same-fuel j k xs (omega arith) (omega arith)) refl

-- one turn of the scan
pub scan-kept : (rest : List ℕ) → stands rest ≡ true
    → scan rest ≡ kept (take (size_at rest) rest) ∷ scan (drop (size_at rest) rest)
unfolding scan scan_from
scan-kept [] e = absurd (let h = stands-whole [] e in omega (arith, size-some []))
scan-kept (b ∷ bs) e =
    let n = size-some (b ∷ bs) in
    let p : length (drop (size_at (b ∷ bs)) (b ∷ bs)) ≤ length bs = rw length-drop (omega arith) in
    let q : length (drop (size_at (b ∷ bs)) (b ∷ bs)) ≤ length (drop (size_at (b ∷ bs)) (b ∷ bs)) = omega arith in
    rw (e, same-fuel (length bs) _ _ p q) refl

pub scan-skip : (b : ℕ) (bs : List ℕ) → stands (b ∷ bs) ≡ false → scan (b ∷ bs) ≡ skip b (scan bs)
unfolding scan scan_from
scan-skip b bs e = rw e refl

-- What holds of no stretches, of a kept record before others and of a skipped byte before others holds of every scan.
module _ (P : List ℕ → List Stretch → Type 0) (none : P [] [])
    (keep : (rest : List ℕ) (ss : List Stretch) → stands rest ≡ true → P (drop (size_at rest) rest) ss
    → P rest (kept (take (size_at rest) rest) ∷ ss))
    (pass : (b : ℕ) (bs : List ℕ) (ss : List Stretch) → stands (b ∷ bs) ≡ false → P bs ss → P (b ∷ bs) (skip b ss)) where
  each : (k : ℕ) (list : List ℕ) → length list ≤ k → P list (scan list)
  unfolding scan scan_from
  each zero [] h = none
  each zero (b ∷ bs) h = absurd (omega arith)
  each (suc k) [] h = none
  each (suc k) (b ∷ bs) h =
      let n = size-some (b ∷ bs) in
      go (stands (b ∷ bs)) refl (each k _ (rw length-drop (omega arith))) (each k bs (omega arith))
    where
      go : (t : Bool) → stands (b ∷ bs) ≡ t → P (drop (size_at (b ∷ bs)) (b ∷ bs)) (scan (drop (size_at (b ∷ bs)) (b ∷ bs)))
          → P bs (scan bs) → P (b ∷ bs) (scan (b ∷ bs))
      go true e after past = rw (scan-kept (b ∷ bs) e) (keep (b ∷ bs) _ e after)
      go false e after past = rw (scan-skip b bs e) (pass b bs _ e past)

  pub by-scan : (list : List ℕ) → P list (scan list)
  by-scan list = each (length list) list (omega arith)

-- a stretch's bytes, and those of all stretches in order
unfoldable pub bytes_of : Stretch → List ℕ
bytes_of (kept r) = r
bytes_of (skipped bs) = bs

unfoldable pub joined : List Stretch → List ℕ
joined [] = []
joined (s ∷ ss) = bytes_of s ++ joined ss

joined-skip : (b : ℕ) (ss : List Stretch) → joined (skip b ss) ≡ b ∷ joined ss
unfolding joined skip bytes_of
joined-skip b [] = refl
joined-skip b (kept r ∷ ss) = refl
joined-skip b (skipped bs ∷ ss) = refl

-- Kept and skipped stretches together cover the list once, in order.
pub covered : (list : List ℕ) → joined (scan list) ≡ list
unfolding joined bytes_of
covered =
    by-scan (λ list ss. joined ss ≡ list) refl (λ rest ss e h. rw h (take-append-drop (size_at rest) rest))
    (λ b bs ss e h. joined-skip b ss ∙ ap (λ (l : List ℕ). b ∷ l) h)

-- The first stretch, and the scan of what is behind it.
pub record First (rest : List ℕ) (t : Stretch) (ts : List Stretch) : Type 0 where
  pub behind : ts ≡ scan (drop (length (bytes_of t)) rest)
  pub front : bytes_of t ≡ take (length (bytes_of t)) rest
  pub some : 1 ≤ length (bytes_of t)

abbrev Ahead : List ℕ → List Stretch → Type 0
Ahead rest [] = Unit
Ahead rest (t ∷ ts) = First rest t ts

ahead-kept : (rest : List ℕ) (ss : List Stretch) → stands rest ≡ true
    → (ss ≡ scan (drop (size_at rest) rest)) × Ahead (drop (size_at rest) rest) ss
    → (kept (take (size_at rest) rest) ∷ ss ≡ scan rest) × First rest (kept (take (size_at rest) rest)) ss
unfolding bytes_of
ahead-kept rest ss e h =
    let l = length-take-le (size_at rest) rest (stands-whole rest e) in (
      rw h.0 (sym (scan-kept rest e)),
      record { behind = rw l h.0; front = rw l refl; some = omega (arith, l, size-some rest) },
    )

ahead_skipped : (b : ℕ) (bs : List ℕ) (ss : List Stretch) → stands (b ∷ bs) ≡ false → (ss ≡ scan bs) × Ahead bs ss
    → (skip b ss ≡ scan (b ∷ bs)) × Ahead (b ∷ bs) (skip b ss)
unfolding skip bytes_of
ahead_skipped b bs ss e h = (rw h.0 (sym (scan-skip b bs e)), go ss h)
  where
    go : (ss : List Stretch) → (ss ≡ scan bs) × Ahead bs ss → Ahead (b ∷ bs) (skip b ss)
    go [] h = record { behind = h.0; front = refl; some = omega arith }
    go (kept r ∷ ss) h = record { behind = h.0; front = refl; some = omega arith }
    go (skipped cs ∷ ss) h =
        record { behind = h.1.behind; front = ap (λ (l : List ℕ). b ∷ l) h.1.front; some = omega arith }

ahead : (list : List ℕ) → (scan list ≡ scan list) × Ahead list (scan list)
unfolding scan scan_from
ahead = by-scan (λ list ss. (ss ≡ scan list) × Ahead list ss) (refl, tt) ahead-kept ahead_skipped

-- a list that is not empty has a first stretch
pub record Begins (rest : List ℕ) : Type 0 where
  pub t : Stretch
  pub ts : List Stretch
  pub same : scan rest ≡ t ∷ ts
  pub first : First rest t ts

pub begins : (rest : List ℕ) → 0 < length rest → Begins rest
unfolding joined
begins rest h = go (scan rest) refl (ahead rest).1 (covered rest)
  where
    go : (ss : List Stretch) → scan rest ≡ ss → Ahead rest ss → joined ss ≡ rest → Begins rest
    go [] e a c = let z : 0 ≡ length rest = ap length c in absurd (omega arith)
    go (t ∷ ts) e a c = record { t = t; ts = ts; same = e; first = a }
