-- Going through a list up to the first record that is refused, or to its end.
use Prim.Native.Nat.{ℕ, zero, suc, ◌+◌, ◌-◌, ◌≤◌, ◌<◌}
use mathlib.Core.Path.{◌≡◌, refl, sym, ap, ◌∙◌}
use mathlib.Core.List.{List, [], ◌∷◌, ◌++◌}
use native.Mathlib.Omega.{arith}
use native.Mathlib.Numerals.{add-one}
use lib.ListN.{length, take, drop, length-append, length-drop, length-take}
use lib.Seq.{drop-drop}
use Rattle.packet.specs.Step.{Step}
use Rattle.packet.specs.Rules.{first}
use Rattle.packet.specs.Command.{pick_kind}
use Rattle.packet.proofs.SliceLaws.{tail-whole}
use Rattle.cue.specs.Records.{Listed, refused, records, records_of, records_from, record_refusals, record_step, record_kind, record_bytes, record_at}
use Rattle.cue.specs.Records.{with_record, listed_at, most_records}
use Rattle.cue.specs.declared.records.Record.{Record}
use Rattle.cue.proofs.PackingLaws.{record_bytes_le}
use Rattle.cue.proofs.ReadingLaws.{passing}
use Rattle.cue.proofs.WalkLaws.{records-next, records-end}
use Rattle.list_reason.specs.ListReason.{offset_of, walked, walked_by}

-- records in front of others
unfoldable following : List Step → Listed → Listed
following [] v = v
following (x ∷ xs) v = with_record x (following xs v)

following-one : (xs : List Step) (x : Step) (v : Listed) → following (xs ++ (x ∷ [])) v ≡ following xs (with_record x v)
unfolding following
following-one [] x v = refl
following-one (y ∷ xs) x v = ap (with_record y) (following-one xs x v)

following-refused : (xs : List Step) (n i : ℕ) → following xs (refused n i) ≡ refused n i
unfolding following with_record
following-refused [] n i = refl
following-refused (x ∷ xs) n i = rw (following-refused xs n i) refl

following-end : (xs : List Step) → following xs (records []) ≡ records xs
unfolding following with_record
following-end [] = refl
following-end (x ∷ xs) = rw (following-end xs) refl

-- at a refused record
records-refused : (fuel index : ℕ) (rest : List ℕ) (n : ℕ) → 0 < length rest → n ≡ first (record_refusals index rest) → (n ≡ 0 → ⊥)
    → records_from (suc fuel) index rest ≡ refused n index
unfolding records_from
records-refused fuel index [] n h e z = absurd (omega arith)
records-refused fuel index (b ∷ bs) n h e z = rw (← e) (go n _ z)
  where
    go : (n : ℕ) (v : Listed) → (n ≡ 0 → ⊥) → listed_at n index v ≡ refused n index
    go zero v z = absurd (z refl)
    go (suc n) v z = refl

-- a record further
offset_suc : (i : ℕ) (list : List ℕ)
    → offset_of (suc i) list ≡ offset_of i list + record_bytes (record_kind (drop (offset_of i list) list))
unfolding offset_of
offset_suc zero list = omega arith
offset_suc (suc i) list =
    let n = record_bytes (record_kind list) in
    rw (offset_suc i (drop n list), drop-drop) (omega arith)

offset_next : (i : ℕ) (list : List ℕ)
    → offset_of (i + 1) list ≡ offset_of i list + record_bytes (record_kind (drop (offset_of i list) list))
offset_next i list = rw add-one (offset_suc i list)

-- What holds before the record with this index: the records so far, where it begins, and what remains.
pub record Going (list rest : List ℕ) (index : ℕ) : Type 0 where
  fuel : ℕ
  enough : length rest ≤ fuel
  done : List Step
  count : length done ≡ index
  same : records_of list ≡ following done (records_from fuel index rest)
  rest-is : rest ≡ drop (offset_of index list) list
  within : offset_of index list ≤ length list
  pub few : index ≤ most_records

pub going-first : (list : List ℕ) → Going list list 0
unfolding records_of following offset_of
going-first list =
    record {
      fuel = length list;
      enough = omega arith;
      done = [];
      count = refl;
      same = refl;
      rest-is = refl;
      within = omega arith;
      few = omega arith;
    }

module _ {list rest : List ℕ} {index : ℕ} (g : Going list rest index) where
  -- where the record begins, by what remains
  rest-length : length rest ≡ length list - offset_of index list
  rest-length = ap length g.rest-is ∙ length-drop _ list

  pub rest-shorter : length rest ≤ length list
  rest-shorter = omega (arith, rest-length)

  begins : length list - length rest ≡ offset_of index list
  begins = omega (arith, rest-length, g.within)

  pub going-refused : (n : ℕ) → (length rest ≡ 0 → ⊥) → n ≡ first (record_refusals index rest) → (n ≡ 0 → ⊥)
      → record { number = n; records = index; bytes = length list - length rest } ≡ walked list
  unfolding walked walked_by
  going-refused n l e z = go g.fuel g.enough g.same
    where
      go : (k : ℕ) → length rest ≤ k → records_of list ≡ following g.done (records_from k index rest)
          → record { number = n; records = index; bytes = length list - length rest } ≡ walked list
      go zero m q = absurd (l (omega arith))
      go (suc k) m q = rw (q, records-refused k index rest n (omega arith) e z, following-refused, begins) refl

  pub going-ended : length rest ≡ 0 → record { number = 0; records = index; bytes = length list } ≡ walked list
  unfolding walked walked_by
  going-ended l = go rest l g.same
    where
      go : (r : List ℕ) → length r ≡ 0 → records_of list ≡ following g.done (records_from g.fuel index r)
          → record { number = 0; records = index; bytes = length list } ≡ walked list
      go [] z q = rw (q, records-end g.fuel index, following-end, g.count) refl
      go (b ∷ bs) z q = absurd (omega arith)

  -- a turn, as the code makes it
  module _ (l : length rest ≡ 0 → ⊥) (n : ℕ) (e : n ≡ first (record_refusals index rest)) (z : n ≡ 0) (r : Record) (a : r ≡ record_at rest)
      (k : ℕ) (b : k ≡ record_bytes (pick_kind r.write)) where
    fine : first (record_refusals index rest) ≡ 0
    fine = sym e ∙ z

    bytes_same : k ≡ record_bytes (record_kind rest)
    unfolding record_at record_kind
    bytes_same = b ∙ ap (λ (s : Record). record_bytes (pick_kind s.write)) a

    pub going-whole : k ≤ length rest
    unfolding record_step
    going-whole = rw bytes_same (passing index rest fine).bytes

    pub going-shorter : length (take (length rest - k) (drop k rest)) < length rest
    going-shorter =
        let some = record_bytes_le (record_kind rest) in
        let same = bytes_same in
        let whole = going-whole in
        simp (length-take, length-drop) (omega arith)

    pub going_next : Going list (take (length rest - k) (drop k rest)) (index + 1)
    going_next = go g.fuel g.enough g.same
      where
        go : (f : ℕ) → length rest ≤ f → records_of list ≡ following g.done (records_from f index rest)
            → Going list (take (length rest - k) (drop k rest)) (index + 1)
        go zero m q = absurd (l (omega arith))
        go (suc f) m q =
            let some = record_bytes_le (record_kind rest) in
            let same = bytes_same in
            let whole = going-whole in
            let other = (passing index rest fine).few in
            let len = rest-length in
            let next : offset_of (index + 1) list ≡ offset_of index list + k =
            rw (offset_next index list, ← g.rest-is, ← same) refl in
            record {
              fuel = f;
              enough = rw (tail-whole, length-drop) (omega arith);
              done = g.done ++ (record_step rest ∷ []);
              count = rw length-append (omega (arith, g.count));
              same = rw (tail-whole, same, following-one) (q ∙ rw (records-next f index rest (omega arith) fine) refl);
              rest-is = rw (tail-whole, next) (ap (drop k) g.rest-is ∙ drop-drop k (offset_of index list) list);
              within = omega (arith, g.within);
              few = omega (arith, g.few);
            }
