-- Laws of a salvage's answer and of what it leaves.
use Prim.Native.Nat.{ℕ, ◌/◌, ◌≤◌, ◌<◌}
use mathlib.Core.Path.{◌≡◌, refl, ap}
use mathlib.Core.List.{List, [], ◌∷◌, ◌++◌}
use mathlib.Core.Bool.{Bool, true, false, cond}
use native.Mathlib.Omega.{arith}
use lib.ListN.{length, drop}
use lib.Dec.{ltb}
use borrow.Author.Tests.{ltb-true, ltb-false, lt-ltb, le-ltb}
use Rattle.lbp16.specs.Answer.{Answer}
use Rattle.salvage.specs.Salvage.{Salvaged, salvaged, scan, counted, output, logged, entries}
use Rattle.salvage.specs.Inside.{Ready}
use Rattle.salvage.specs.declared.scan.Counts.{Counts}

-- a refusal leaves both rooms as they are
abbrev pub turned_away : ℕ → ℕ → List ℕ → List ℕ → Salvaged
turned_away n k room log = record { answer = Answer.refused n k; room = room; log = log }

-- output and log at the rooms' fronts
abbrev pub whole : List ℕ → List ℕ → List ℕ → Salvaged
whole list room log =
    record {
      answer = Answer.accepted (length (output list) ∷ entries list ∷ []);
      room = output list ++ drop (length (output list)) room;
      log = logged list ++ drop (length (logged list)) log;
    }

module _ (list room log : List ℕ) where
  pub small-room : length room < length list → salvaged list room log ≡ turned_away 26 (length list) room log
  unfolding salvaged
  small-room h = rw (lt-ltb _ _ h) refl

  pub small-log : length list ≤ length room → length log / 2 < entries list
      → salvaged list room log ≡ turned_away 27 (entries list) room log
  unfolding salvaged
  small-log h k = rw (le-ltb _ _ h, lt-ltb _ _ k) refl

  pub both-fit : length list ≤ length room → entries list ≤ length log / 2 → salvaged list room log ≡ whole list room log
  unfolding salvaged
  both-fit h k = rw (le-ltb _ _ h, le-ltb _ _ k) refl

  -- What holds of a small room, of a small log and of rooms that suffice holds of every salvage.
  pub salvage_cases : (P : Salvaged → Type 0)
      → (length room < length list → P (turned_away 26 (length list) room log))
      → (length list ≤ length room → length log / 2 < entries list → P (turned_away 27 (entries list) room log))
      → (length list ≤ length room → entries list ≤ length log / 2 → P (whole list room log))
      → P (salvaged list room log)
  unfolding salvaged
  salvage_cases P a b c =
      go (ltb (length room) (length list)) (ltb (length log / 2) (entries list)) refl refl
    where
      go : (t u : Bool) → ltb (length room) (length list) ≡ t → ltb (length log / 2) (entries list) ≡ u
          → P (cond t (turned_away 26 (length list) room log) (cond u (turned_away 27 (entries list) room log) (whole list room log)))
      go true u e f = a (ltb-true _ _ e)
      go false true e f = b (ltb-false _ _ e) (ltb-true _ _ f)
      go false false e f = c (ltb-false _ _ e) (ltb-false _ _ f)

  -- A refused salvage leaves both rooms as they were.
  pub refusal_changes_nothing : (n k : ℕ) → (salvaged list room log).answer ≡ Answer.refused n k
      → ((salvaged list room log).room ≡ room) × ((salvaged list room log).log ≡ log)
  refusal_changes_nothing n k =
      salvage_cases (λ s. s.answer ≡ Answer.refused n k → (s.room ≡ room) × (s.log ≡ log)) (λ h e. (refl, refl))
      (λ h k e. (refl, refl)) (λ h k e. let z : ◌≡◌ {A = ℕ} 0 1 = cc in absurd (omega arith))

  -- as the code finds it, by its counts
  module _ (c : Counts) (e : c ≡ counted (scan list)) (h : length list ≤ length room) where
    entries-counted : c.entries ≡ entries list
    unfolding counted entries
    entries-counted = ap (λ (x : Counts). x.entries) e

    bytes_counted : c.bytes ≡ length (output list)
    unfolding counted output
    bytes_counted = ap (λ (x : Counts). x.bytes) e

    pub ready : c.entries ≤ length log / 2 → Ready list room log
    ready k = record { bytes = h; numbers = rw entries-counted at k }

    pub too_few : length log / 2 < c.entries → salvaged list room log ≡ turned_away 27 c.entries room log
    too_few k = rw (entries-counted) (small-log h (rw entries-counted at k))

    pub all-written : (room₁ log₁ : List ℕ) → c.entries ≤ length log / 2
        → (room₁ ≡ output list ++ drop (length (output list)) room) × (log₁ ≡ logged list ++ drop (length (logged list)) log)
        → salvaged list room log ≡ record { answer = Answer.accepted (c.bytes ∷ c.entries ∷ []); room = room₁; log = log₁ }
    all-written room₁ log₁ k w =
        rw (entries-counted, bytes_counted, w.0, w.1) (both-fit h (rw entries-counted at k))

-- a salvage by its parts, as the code has it
pub parts : {s t : Salvaged} → t ≡ s → (t.answer ≡ s.answer) × ((t.room ≡ s.room) × (t.log ≡ s.log))
parts e = (ap (λ (x : Salvaged). x.answer) e, (ap (λ (x : Salvaged). x.room) e, ap (λ (x : Salvaged). x.log) e))
