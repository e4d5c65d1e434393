-- The records before a place of a list, alone: they are an accepted list.
use Prim.Native.Nat.{ℕ, zero, suc, ◌+◌, ◌≤◌, ◌<◌}
use mathlib.Core.Path.{◌≡◌, refl, sym, ap, ◌∙◌}
use mathlib.Core.List.{List, [], ◌∷◌, ◌++◌}
use native.Mathlib.Omega.{arith}
use lib.ListN.{length, take, drop, length-append, length-drop, take-append-drop}
use lib.Seq.{take-add, drop_at, drop-drop, length-take-le}
use Rattle.packet.specs.Step.{Step}
use Rattle.packet.specs.Rules.{first}
use Rattle.cue.specs.Records.{refused, records, records_of, records_from, record_refusals, record_step, record_kind, record_bytes, with_record}
use Rattle.cue.proofs.RecordLaws.{Leads, refused_record}
use Rattle.cue.proofs.ReadingLaws.{passing}
use Rattle.cue.proofs.PackingLaws.{record_bytes_le}
use Rattle.cue.proofs.OwnBytesLaws.{same_kind_lem, same_step_lem, judged-alike}
use Rattle.cue.proofs.WalkLaws.{records-next, records-end}
use Rattle.list_reason.specs.ListReason.{offset_of, FrontGood}

-- a good record's own bytes
own-bytes : (i : ℕ) (rest : List ℕ) → first (record_refusals i rest) ≡ 0
    → record_bytes (record_kind rest) ≤ length rest
unfolding record_step
own-bytes i rest f = (passing i rest f).bytes

own-kind : (rest : List ℕ) (n : ℕ) → 2 ≤ n → n ≤ length rest → record_kind (take n rest) ≡ record_kind rest
own-kind rest n h l =
    let two : 2 ≤ length (take n rest) = rw (length-take-le n rest l) h in
    sym (same_kind_lem (take n rest) (drop n rest) two) ∙ ap record_kind (take-append-drop n rest)

-- with other bytes behind it, it is as good and the same
module _ (i fuel : ℕ) (r more x : List ℕ) (own : record_bytes (record_kind r) ≡ length r) (f : first (record_refusals i (r ++ more)) ≡ 0) where
  own-next : records_from (suc fuel) i (r ++ x) ≡ with_record (record_step (r ++ more)) (records_from fuel (i + 1) x)
  own-next =
      let l = record_bytes_le (record_kind r) in
      let within : record_bytes (record_kind r) ≤ length r = omega arith in
      let few = (passing i (r ++ more) f).few in
      let good : first (record_refusals i (r ++ x)) ≡ 0 =
      judged-alike i i r x within few few ∙ sym (judged-alike i i r more within few few) ∙ f in
      let some : 0 < length (r ++ x) = rw length-append (omega arith) in
      let two : 2 ≤ length r = omega arith in
      let size : length r ≡ record_bytes (record_kind (r ++ x)) = rw (same_kind_lem r x two) (sym own) in
      records-next fuel i (r ++ x) some good
      ∙ rw (drop_at r x _ size, same_step_lem r x within, same_step_lem r more within) refl

-- From one record to another: so many records further, and those between are a list.
record Between (i : ℕ) (rest : List ℕ) (j : ℕ) (left : List ℕ) : Type 0 where
  count : ℕ
  index : i + count ≡ j
  whole : offset_of count rest ≤ length rest
  left_is : left ≡ drop (offset_of count rest) rest
  xs : List Step
  size : length xs ≡ count
  alone : (fuel : ℕ) → offset_of count rest ≤ fuel → records_from fuel i (take (offset_of count rest) rest) ≡ records xs

-- one record more in front
further : (i : ℕ) (rest : List ℕ) {j : ℕ} {left : List ℕ} → first (record_refusals i rest) ≡ 0
    → Between (i + 1) (drop (record_bytes (record_kind rest)) rest) j left → Between i rest j left
unfolding offset_of with_record
further i rest {j} {left} f b =
    let w = simp length-drop at b.whole in
    record {
      count = suc b.count;
      index = omega (arith, b.index);
      whole = omega (arith, own-bytes i rest f);
      left_is = b.left_is ∙ drop-drop m n rest;
      xs = record_step rest ∷ b.xs;
      size = ap suc b.size;
      alone = longer;
    }
  where
    n : ℕ
    n = record_bytes (record_kind rest)

    m : ℕ
    m = offset_of b.count (drop n rest)

    longer : (fuel : ℕ) → n + m ≤ fuel → records_from fuel i (take (n + m) rest) ≡ records (record_step rest ∷ b.xs)
    longer zero h = absurd (omega (arith, record_bytes_le (record_kind rest)))
    longer (suc fuel) h =
        let l = record_bytes_le (record_kind rest) in
        let within = own-bytes i rest f in
        let both = take-append-drop n rest in
        let own : record_bytes (record_kind (take n rest)) ≡ length (take n rest) =
        rw (own-kind rest n (omega arith) within, length-take-le n rest within) refl in
        let next = own-next i fuel (take n rest) (drop n rest) (take m (drop n rest)) own (rw both f) in
        rw take-add (next ∙ rw (both, b.alone fuel (omega arith)) refl)

leads_between : {i j : ℕ} {rest left : List ℕ} → Leads i rest j left → Between i rest j left
unfolding offset_of
leads_between {i} (Leads.here {rest = rest}) =
    record {
      count = 0;
      index = omega arith;
      whole = omega arith;
      left_is = refl;
      xs = [];
      size = refl;
      alone = λ fuel h. records-end fuel i;
    }
leads_between (Leads.past f more) = further _ _ f (leads_between more)

-- The records before the one at fault: they are so many, end where it begins, and are an accepted list.
pub record Before (list : List ℕ) (n index : ℕ) : Type 0 where
  pub number : first (record_refusals index (drop (offset_of index list) list)) ≡ n
  pub within : offset_of index list ≤ length list
  pub in_table : (21 ≤ n) × (n ≤ 24)
  pub good : FrontGood list index (offset_of index list)

pub before : (list : List ℕ) (n index : ℕ) → records_of list ≡ refused n index → Before list n index
unfolding records_of
before list n index e =
    let r = refused_record list n index e in
    let b = leads_between r.before in
    let same : b.count ≡ index = omega (arith, b.index) in
    let front = b.alone (length (take (offset_of b.count list) list)) (rw (length-take-le _ list b.whole) (omega arith)) in
    rw (← same) (record {
      number = rw (← b.left_is, same) r.number;
      within = b.whole;
      in_table = r.in_table;
      good = (b.xs, front, b.size);
    })
