-- Going through a list, record by record.
use Prim.Native.Nat.{ℕ, zero, suc, ◌+◌, ◌≤◌, ◌<◌}
use mathlib.Core.Path.{◌≡◌, refl}
use mathlib.Core.List.{List, [], ◌∷◌}
use native.Mathlib.Omega.{arith}
use native.Mathlib.Nat.{le_refl}
use lib.ListN.{length, drop, length-drop}
use Rattle.packet.specs.Step.{Step}
use Rattle.packet.specs.Rules.{first}
use Rattle.cue.specs.Records.{Listed, refused, records, records_of, records_from, record_refusals, record_step, record_kind}
use Rattle.cue.specs.Records.{record_bytes, with_record, listed_at}
use Rattle.cue.proofs.PackingLaws.{record_bytes_le}

-- past a good record, and at the end
module _ (fuel index : ℕ) where
  pub records-next : (rest : List ℕ) → 0 < length rest → first (record_refusals index rest) ≡ 0
      → records_from (suc fuel) index rest
      ≡ with_record (record_step rest) (records_from fuel (index + 1) (drop (record_bytes (record_kind rest)) rest))
  unfolding records_from
  records-next [] h e = absurd (omega arith)
  records-next (b ∷ bs) h e = rw e refl

  pub records-end : records_from fuel index [] ≡ records []
  unfolding records_from
  records-end = go fuel
    where
      go : (k : ℕ) → records_from k index [] ≡ records []
      go zero = refl
      go (suc k) = refl

-- From the record with this index on, the list's bytes `rest` have the records `todo`.
pub record Remains (index : ℕ) (rest : List ℕ) (todo : List Step) : Type 0 where
  fuel : ℕ
  enough : length rest ≤ fuel
  listed : records_from fuel index rest ≡ records todo

pub remains-all : (list : List ℕ) (xs : List Step) → records_of list ≡ records xs → Remains 0 list xs
unfolding records_of
remains-all list xs e = record { fuel = length list; enough = le_refl _; listed = e }

pub remains-none : {index : ℕ} {rest : List ℕ} {todo : List Step} → Remains index rest todo → length rest ≡ 0 → todo ≡ []
remains-none {index} {rest} {todo} r h = go rest h r.listed
  where
    go : (rest : List ℕ) → length rest ≡ 0 → records_from r.fuel index rest ≡ records todo → todo ≡ []
    go [] h l = let e = records-end r.fuel index in cc
    go (b ∷ bs) h l = absurd (omega arith)

-- the record at the front, and those behind it
pub record Next (index : ℕ) (rest : List ℕ) (todo : List Step) : Type 0 where
  pub later : List Step
  pub same : todo ≡ record_step rest ∷ later
  pub fine : first (record_refusals index rest) ≡ 0
  pub remains : Remains (index + 1) (drop (record_bytes (record_kind rest)) rest) later

next-from : (fuel index : ℕ) (rest : List ℕ) (todo : List Step) → length rest ≤ fuel → (length rest ≡ 0 → ⊥)
    → records_from fuel index rest ≡ records todo → Next index rest todo
unfolding records_from with_record
next-from zero index rest todo l h e = absurd (h (omega arith))
next-from (suc fuel) index [] todo l h e = absurd (h refl)
next-from (suc fuel) index (b ∷ bs) todo l h e = go _ _ refl refl e
  where
    rest : List ℕ
    rest = b ∷ bs

    n : ℕ
    n = record_bytes (record_kind rest)

    go : (k : ℕ) (v : Listed) → first (record_refusals index rest) ≡ k → records_from fuel (index + 1) (drop n rest) ≡ v
        → listed_at k index (with_record (record_step rest) v) ≡ records todo → Next index rest todo
    go zero (refused m i) f g e = let z : ◌≡◌ {A = ℕ} 0 1 = cc in absurd (omega arith)
    go zero (records ys) f g e =
        record {
          later = ys;
          same = cc;
          fine = f;
          remains =
              record { fuel = fuel; enough = rw length-drop (omega (arith, record_bytes_le (record_kind rest))); listed = g };
        }
    go (suc k) v f g e = let z : ◌≡◌ {A = ℕ} 0 1 = cc in absurd (omega arith)

pub remains-next : {index : ℕ} {rest : List ℕ} {todo : List Step} → Remains index rest todo → (length rest ≡ 0 → ⊥)
    → Next index rest todo
remains-next r h = next-from r.fuel _ _ _ r.enough h r.listed
