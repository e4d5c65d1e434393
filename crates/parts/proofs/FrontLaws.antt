-- A record is known by its front: what follows it in the list does not matter.
use Prim.Native.Nat.{ℕ, ◌≤◌, ◌<◌}
use mathlib.Core.Path.{◌≡◌, refl, sym, ◌∙◌}
use mathlib.Core.List.{List, [], ◌∷◌, ◌++◌}
use mathlib.Core.Bool.{Bool, true, false, ◌||◌, cond, or-true}
use native.Mathlib.Omega.{arith}
use lib.Dec.{eqb, ltb}
use lib.ListN.{length, length-append}
use lib.Seq.{take-append-le}
use borrow.Author.Tests.{eqb-true, eqb-false, ltb-true, ltb-false, lt-ltb, le-ltb, eq-eqb, ne_eqb}
use Rattle.lbp16.proofs.BoolLaws.{or_false}
use Rattle.packet.specs.Rules.{first}
use Rattle.cue.specs.Records.{mark_at, record_kind, record_bytes, record_refusals, most_records}
use Rattle.packet.proofs.RuleLaws.{none-holds}
use Rattle.cue.proofs.OwnBytesLaws.{same_kind_lem, judged-alike}
use Rattle.cue.proofs.PackingLaws.{record_bytes_le}
use Rattle.parts.specs.Taking.{unknown_mark, decided_at}

pub mark-front : (rest t : List ℕ) → 2 ≤ length rest → mark_at (rest ++ t) ≡ mark_at rest
unfolding mark_at
mark-front rest t h = rw take-append-le refl

-- Bytes of a record that has not yet shown whether it is good.
abbrev pub Waiting : ℕ → List ℕ → Type 0
Waiting index [] = Unit
Waiting index (b ∷ bs) = length (b ∷ bs) < decided_at index (b ∷ bs)

module _ (index : ℕ) where
  -- by the tests that `decided_at` makes
  decided-cases : (rest : List ℕ) (Q : ℕ → Type 0) → (index ≡ most_records → Q 1)
      → ((index ≡ most_records → ⊥) → length rest < 2 → Q 2)
      → ((index ≡ most_records → ⊥) → 2 ≤ length rest → unknown_mark rest ≡ true → Q 2)
      → ((index ≡ most_records → ⊥) → 2 ≤ length rest → unknown_mark rest ≡ false → Q (record_bytes (record_kind rest)))
      → Q (decided_at index rest)
  unfolding decided_at
  decided-cases rest Q a b c d = go (eqb index most_records) (ltb (length rest) 2) (unknown_mark rest) refl refl refl
    where
      go : (m s u : Bool) → eqb index most_records ≡ m → ltb (length rest) 2 ≡ s → unknown_mark rest ≡ u
          → Q (cond m 1 (cond (s || u) 2 (record_bytes (record_kind rest))))
      go true s u e f g = a (eqb-true _ _ e)
      go false true u e f g = b (eqb-false _ _ e) (ltb-true _ _ f)
      go false false true e f g = c (eqb-false _ _ e) (ltb-false _ _ f) g
      go false false false e f g = d (eqb-false _ _ e) (ltb-false _ _ f) g

  -- one byte more reaches the deciding byte at most
  decided-some : (rest : List ℕ) → 1 ≤ decided_at index rest
  decided-some rest =
      decided-cases rest (λ n. 1 ≤ n) (λ _. omega arith) (λ _ _. omega arith) (λ _ _ _. omega arith)
      (λ _ _ _. omega (arith, record_bytes_le (record_kind rest)))

  pub decided_le : (rest : List ℕ) → decided_at index rest ≤ 10
  decided_le rest =
      decided-cases rest (λ n. n ≤ 10) (λ _. omega arith) (λ _ _. omega arith) (λ _ _ _. omega arith)
      (λ _ _ _. omega (arith, record_bytes_le (record_kind rest)))

  pub decided-two : (rest : List ℕ) → (index ≡ most_records → ⊥) → 2 ≤ decided_at index rest
  decided-two rest few =
      decided-cases rest (λ n. 2 ≤ n) (λ e. absurd (few e)) (λ _ _. omega arith) (λ _ _ _. omega arith)
      (λ _ _ _. omega (arith, record_bytes_le (record_kind rest)))

  waiting_few : (b : ℕ) (bs : List ℕ) → Waiting index (b ∷ bs) → index ≡ most_records → ⊥
  unfolding decided_at
  waiting_few b bs w e = let h = rw (eq-eqb _ _ e) at w in omega arith

  pub decided-front : (rest t : List ℕ) → 2 ≤ length rest → decided_at index (rest ++ t) ≡ decided_at index rest
  unfolding decided_at unknown_mark
  decided-front rest t h =
      let e : ltb (length (rest ++ t)) 2 ≡ false = le-ltb (length (rest ++ t)) 2 (rw length-append (omega arith)) in
      rw (e, le-ltb (length rest) 2 h, mark-front rest t h, same_kind_lem rest t h) refl

  pub reaches : (c : List ℕ) (b : ℕ) → Waiting index c → length (c ++ (b ∷ [])) ≤ decided_at index (c ++ (b ∷ []))
  reaches [] b w = decided-some (b ∷ [])
  reaches (a ∷ []) b w = decided-two (a ∷ b ∷ []) (waiting_few a [] w)
  reaches (a ∷ d ∷ c) b w =
      rw (decided-front (a ∷ d ∷ c) (b ∷ []) (omega arith)) (simp length-append (omega arith))

  -- A record that is decided gets the whole list's number; if it is good, its bytes are all there.
  pub decided-number : (rest t : List ℕ) → length rest ≡ decided_at index rest
      → first (record_refusals index (rest ++ t)) ≡ first (record_refusals index rest)
  unfolding record_refusals first unknown_mark
  decided-number rest t =
      decided-cases rest (λ n. length rest ≡ n → first (record_refusals index (rest ++ t)) ≡ first (record_refusals index rest))
      (λ m l. rw (eq-eqb index most_records m) refl)
      (λ _ s l. absurd (omega arith))
      (λ few s u l. rw (mark-front rest t s, u) refl)
      (λ few s u l. judged-alike index index rest t (omega arith) few few)

  pub decided-whole : (rest : List ℕ) → length rest ≡ decided_at index rest → first (record_refusals index rest) ≡ 0
      → length rest ≡ record_bytes (record_kind rest)
  unfolding record_refusals unknown_mark
  decided-whole rest l e =
      let n = none-holds (record_refusals index rest) (omega arith) e in
      let d = or_false (unknown_mark rest) _ n.1.0 in
      decided-cases rest (λ k. length rest ≡ k → length rest ≡ record_bytes (record_kind rest))
      (λ m l. absurd (eqb-false _ _ n.0 m))
      (λ _ s l. absurd (omega arith))
      (λ few s u l. let z : true ≡ false = sym u ∙ d.0 in let y : ◌≡◌ {A = ℕ} 0 1 = cc in absurd (omega arith))
      (λ few s u l. l)
      l

  -- a record that the list's end cuts
  pub cut-number : (b : ℕ) (bs : List ℕ) → Waiting index (b ∷ bs) → first (record_refusals index (b ∷ bs)) ≡ 22
  unfolding record_refusals first unknown_mark
  cut-number b bs w =
      let few = waiting_few b bs w in
      let rest = b ∷ bs in
      decided-cases rest (λ k. length rest < k → first (record_refusals index rest) ≡ 22)
      (λ m l. absurd (few m))
      (λ _ s l. let c : length rest < record_bytes (record_kind rest) = omega (arith, record_bytes_le (record_kind rest)) in
      rw (ne_eqb index most_records few, lt-ltb _ _ c, or-true) refl)
      (λ _ s u l. absurd (omega arith))
      (λ _ s u l. rw (ne_eqb index most_records few, lt-ltb _ _ l, or-true) refl)
      w
