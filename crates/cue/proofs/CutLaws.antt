-- Laws of a list taken apart by its marks.
use Prim.Native.Nat.{ℕ, zero, suc, ◌≤◌, ◌<◌}
use mathlib.Core.Path.{◌≡◌, refl, ap}
use mathlib.Core.List.{List, [], ◌∷◌, map}
use native.Mathlib.Omega.{arith}
use native.Mathlib.Decide.{dec_le}
use native.Mathlib.Nat.{le_refl}
use lib.ListN.{length, drop, length-drop}
use Rattle.packet.specs.Step.{Step}
use Rattle.cue.specs.Records.{records, records_of, record_step, record_at, brief, record_kind, record_bytes, cut_from, cut_up}
use Rattle.cue.proofs.PackingLaws.{record_bytes_le}
use Rattle.cue.proofs.ReadingLaws.{passing}
use Rattle.cue.proofs.WalkLaws.{Remains, remains-all, remains-none, remains-next}

cut_enough : (j k : ℕ) (rest : List ℕ) → length rest ≤ j → length rest ≤ k → cut_from j rest ≡ cut_from k rest
unfolding cut_from
cut_enough zero zero rest h i = refl
cut_enough zero (suc k) [] h i = refl
cut_enough zero (suc k) (b ∷ bs) h i = absurd (omega arith)
cut_enough (suc j) zero [] h i = refl
cut_enough (suc j) zero (b ∷ bs) h i = absurd (omega arith)
cut_enough (suc j) (suc k) [] h i = refl
cut_enough (suc j) (suc k) (b ∷ bs) h i =
    let some = record_bytes_le (record_kind (b ∷ bs)) in
    ap
    (λ l. record_at (b ∷ bs) ∷ l)
    (cut_enough j k (drop (record_bytes (record_kind (b ∷ bs))) (b ∷ bs))
    (rw length-drop (omega arith))
    (rw length-drop (omega arith)))

pub cut-next : (rest : List ℕ) → 0 < length rest → cut_up rest ≡ record_at rest ∷ cut_up (drop (record_bytes (record_kind rest)) rest)
unfolding cut_up cut_from
cut-next [] h = absurd (omega arith)
cut-next (b ∷ bs) h =
    let some = record_bytes_le (record_kind (b ∷ bs)) in
    ap
    (λ l. record_at (b ∷ bs) ∷ l)
    (cut_enough (length bs) _ _ (rw length-drop (omega arith)) (le_refl _))

pub cut-end : (rest : List ℕ) → length rest ≡ 0 → cut_up rest ≡ []
unfolding cut_up cut_from
cut-end [] h = refl
cut-end (b ∷ bs) h = absurd (omega arith)

-- A good list taken apart so gives its records.
cut-remains : (todo : List Step) (index : ℕ) (rest : List ℕ) → Remains index rest todo → cut_up rest ≡ map brief todo
cut-remains [] index rest r = cut-end rest (go (dec_le (length rest) 0))
  where
    go : Dec (length rest ≤ 0) → length rest ≡ 0
    go (yes h) = omega arith
    go (no n) = let s = remains-next r (λ e. n (omega arith)) in let z : [] ≡ record_step rest ∷ s.later = s.same in absurd cc
cut-remains (x ∷ xs) index rest r = go (dec_le (length rest) 0) (cut-remains xs)
  where
    go : Dec (length rest ≤ 0) → ((index : ℕ) (rest : List ℕ) → Remains index rest xs → cut_up rest ≡ map brief xs)
        → cut_up rest ≡ map brief (x ∷ xs)
    go (yes h) others = let z : x ∷ xs ≡ [] = remains-none r (omega arith) in absurd cc
    go (no n) others =
        let s = remains-next r (λ e. n (omega arith)) in
        let z : x ∷ xs ≡ record_step rest ∷ s.later = s.same in
        let h : x ≡ record_step rest = cc in
        let t : s.later ≡ xs = cc in
        rw (cut-next rest (omega arith), (passing index rest s.fine).read, others _ _ (rw t at s.remains), h) refl

pub cut-good : (list : List ℕ) (xs : List Step) → records_of list ≡ records xs → cut_up list ≡ map brief xs
cut-good list xs e = cut-remains xs 0 list (remains-all list xs e)

-- It has no more records than bytes.
cut_short : (fuel : ℕ) (rest : List ℕ) → length (cut_from fuel rest) ≤ length rest
unfolding cut_from
cut_short zero rest = omega arith
cut_short (suc fuel) [] = omega arith
cut_short (suc fuel) (b ∷ bs) =
    let some = record_bytes_le (record_kind (b ∷ bs)) in
    let later = cut_short fuel (drop (record_bytes (record_kind (b ∷ bs))) (b ∷ bs)) in
    omega (arith, length-drop (record_bytes (record_kind (b ∷ bs))) (b ∷ bs))

pub cut-few : (list : List ℕ) → length (cut_up list) ≤ length list
unfolding cut_up
cut-few list = cut_short (length list) list
