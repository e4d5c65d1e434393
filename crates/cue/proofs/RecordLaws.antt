-- Laws of a cue list's records.
use Prim.Native.Nat.{ℕ, zero, suc, ◌+◌, ◌≤◌}
use mathlib.Core.Path.{◌≡◌, refl}
use mathlib.Core.Logic.{◌≢◌}
use mathlib.Core.List.{List, [], ◌∷◌}
use mathlib.Core.Bool.{false, not, ◌&&◌, ◌||◌}
use native.Mathlib.Omega.{arith}
use lib.Dec.{eqb}
use lib.ListN.{length, take, drop, length-take, length-drop}
use borrow.Author.Tests.{ltb-false, eqb-false}
use Rattle.lbp16.proofs.BoolLaws.{or_false}
use Rattle.lbp16.proofs.SpaceLaws.{element_le}
use Rattle.lbp16.specs.Space.{Space, is_absent, row}
use Rattle.packet.specs.Step.{Kind, read, write, infoRead, Step, is_write, carried}
use Rattle.packet.specs.Rules.{first, misaligned, past_end, barred}
use Rattle.packet.proofs.StepLaws.{pick-plain}
use Rattle.packet.proofs.RuleLaws.{none-holds, FirstHolds, first_holds, Rising, first-within, Lowest, first-lowest}
use Rattle.cue.specs.Records.{Listed, refused, records, records_of, records_from, record_refusals, record_step}
use Rattle.cue.specs.Records.{record_kind, record_bytes, bytes_of_value, reserved, bad_element, mark_at, read_mark, write_mark}
use Rattle.cue.specs.Records.{with_record, listed_at, most_records}
use Rattle.cue.proofs.Relations.{Good}

-- the bytes of these records in a list
unfoldable pub list_bytes : List Step → ℕ
list_bytes [] = 0
list_bytes (x ∷ xs) = record_bytes x.kind + list_bytes xs

-- the five tests that a good record's element passes
pub good-element : (x : Step) → bad_element x ≡ false
    → (is_absent x.space ≡ false) × (misaligned (row x.space) x.address ≡ false) × (past_end x ≡ false) × (barred x ≡ false)
    × (reserved x ≡ false)
unfolding bad_element
good-element x h =
    let a = is_absent x.space in
    let b = a || misaligned (row x.space) x.address in
    let o = or_false (b || past_end x || barred x) (reserved x) h in
    let q = or_false (b || past_end x) (barred x) o.0 in
    let r = or_false b (past_end x) q.0 in
    let t = or_false a (misaligned (row x.space) x.address) r.0 in
    (t.0, t.1, r.1, q.1, o.1)

-- A record that no rule refuses is whole, and its element is good.
pub record Whole (rest : List ℕ) : Type 0 where
  pub bytes : record_bytes (record_step rest).kind ≤ length rest
  pub good : bad_element (record_step rest) ≡ false

pub whole : (index : ℕ) (rest : List ℕ) → first (record_refusals index rest) ≡ 0 → Whole rest
unfolding record_refusals record_step
whole index rest e =
    let (few, (marked, (good, (plain, end)))) = none-holds (record_refusals index rest) (omega arith) e in
    let m = mark_at rest in
    let d = or_false (not (eqb m read_mark) && not (eqb m write_mark)) _ marked in
    record { bytes = ltb-false _ _ d.1; good = good }

-- its bytes stand in the list
pub whole-front : (index : ℕ) (rest : List ℕ) → first (record_refusals index rest) ≡ 0 → record_bytes (record_kind rest) ≤ length rest
unfolding record_step
whole-front index rest e = (whole index rest e).bytes

-- A whole record's step has as many bytes as its element.
pub step-bytes : (rest : List ℕ) (k : Kind) (s : Space) → record_bytes k ≤ length rest
    → length (take (carried k s) (bytes_of_value rest)) ≡ carried k s
unfolding carried bytes_of_value record_bytes is_write
step-bytes rest read s h = refl
step-bytes rest write s h = let q = element_le s in simp (length-take, length-drop) (omega arith)
step-bytes rest infoRead s h = refl

-- The records that a list gives are good, and stand in the list whole.
from-good : (fuel index : ℕ) (list : List ℕ) (xs : List Step) → records_from fuel index list ≡ records xs
    → Good xs × (list_bytes xs ≤ length list)
unfolding records_from record_step record_kind list_bytes with_record
from-good zero index list xs e = let q : [] ≡ xs = cc in rw (← q) (Good.none, omega arith)
from-good (suc fuel) index [] xs e = let q : [] ≡ xs = cc in rw (← q) (Good.none, omega arith)
from-good (suc fuel) index (b ∷ bs) xs e = go _ _ refl (from-good fuel (index + 1) _) e
  where
    rest : List ℕ
    rest = b ∷ bs

    n : ℕ
    n = record_bytes (record_kind rest)

    go : (r : ℕ) (v : Listed) → first (record_refusals index rest) ≡ r
        → ((ys : List Step) → v ≡ records ys → Good ys × (list_bytes ys ≤ length (drop n rest)))
        → listed_at r index (with_record (record_step rest) v) ≡ records xs → Good xs × (list_bytes xs ≤ length rest)
    go zero (refused m i) f more e = let z : ◌≡◌ {A = ℕ} 0 1 = cc in absurd (omega arith)
    go zero (records ys) f more e =
        let w = whole index rest f in
        let q : record_step rest ∷ ys ≡ xs = cc in
        let m = more ys refl in
        let size = simp length-drop at m.1 in
        rw (← q) (Good.more w.good (pick-plain (eqb (mark_at rest) write_mark)) (step-bytes rest _ _ w.bytes) m.0, omega (arith, w.bytes))
    go (suc r) v f more e = let z : ◌≡◌ {A = ℕ} 0 1 = cc in absurd (omega arith)

-- the records of a list that is not refused are good
pub records-good : (list : List ℕ) (xs : List Step) → records_of list ≡ records xs → Good xs
unfolding records_of
records-good list xs e = (from-good (length list) 0 list xs e).0

-- and together have no more bytes than the list
pub list-bytes : (list : List ℕ) (xs : List Step) → records_of list ≡ records xs → list_bytes xs ≤ length list
unfolding records_of
list-bytes list xs e = (from-good (length list) 0 list xs e).1

-- From one record of a list to another, by index and remaining bytes, past records that no rule refuses.
pub data Leads : ℕ → List ℕ → ℕ → List ℕ → Type 0 where
  here : {i : ℕ} {rest : List ℕ} → Leads i rest i rest
  past : {i j : ℕ} {rest left : List ℕ} → first (record_refusals i rest) ≡ 0
      → Leads (i + 1) (drop (record_bytes (record_kind rest)) rest) j left → Leads i rest j left

-- A refusal's index is reached past records that no rule refuses. At the record there the number is the lowest whose
-- condition holds, one of 21 to 24.
pub record RefusedRecord (list : List ℕ) (n index : ℕ) : Type 0 where
  pub rest : List ℕ
  pub before : Leads 0 list index rest
  pub some : 1 ≤ length rest
  pub number : first (record_refusals index rest) ≡ n
  pub holds : FirstHolds n (record_refusals index rest)
  pub lowest : Lowest n (record_refusals index rest)
  pub in_table : (21 ≤ n) × (n ≤ 24)
  pub few : index ≤ most_records

-- the table's numbers rise from 21 to 24
pub record_rising : (index : ℕ) (rest : List ℕ) → Rising 20 24 (record_refusals index rest)
unfolding record_refusals
record_rising index rest = omega arith

-- a record that no rule refuses is none too many
index_below : (index : ℕ) (rest : List ℕ) → first (record_refusals index rest) ≡ 0 → index ≢ most_records
unfolding record_refusals
index_below index rest e = eqb-false _ _ (none-holds (record_refusals index rest) (omega arith) e).0

-- from any record on
abbrev RefusedFrom : ℕ → List ℕ → ℕ → ℕ → Type 0
RefusedFrom i list n index =
    (rest : List ℕ) × Leads i list index rest
    × ((1 ≤ length rest) × (first (record_refusals index rest) ≡ n) × (n ≢ 0) × (index ≤ most_records))

from-refused : (fuel i : ℕ) (list : List ℕ) (n index : ℕ) → i ≤ most_records → records_from fuel i list ≡ refused n index
    → RefusedFrom i list n index
unfolding records_from with_record
from-refused zero i list n index l e = let z : ◌≡◌ {A = ℕ} 0 1 = cc in absurd (omega arith)
from-refused (suc fuel) i [] n index l e = let z : ◌≡◌ {A = ℕ} 0 1 = cc in absurd (omega arith)
from-refused (suc fuel) i (b ∷ bs) n index l e = go _ _ refl (from-refused fuel (i + 1) _ n index) e
  where
    all : List ℕ
    all = b ∷ bs

    go : (r : ℕ) (v : Listed) → first (record_refusals i all) ≡ r
        → (i + 1 ≤ most_records → v ≡ refused n index
        → RefusedFrom (i + 1) (drop (record_bytes (record_kind all)) all) n index)
        → listed_at r i (with_record (record_step all) v) ≡ refused n index → RefusedFrom i all n index
    go zero (refused m j) f more e =
        let below = index_below i all f in
        let (rest, before, facts) = more (omega arith) cc in
        (rest, Leads.past f before, facts)
    go zero (records ys) f more e = let z : ◌≡◌ {A = ℕ} 0 1 = cc in absurd (omega arith)
    go (suc r) v f more e =
        let p : i ≡ index = cc in
        let q : suc r ≡ n = cc in
        rw (← p, ← q) (all, Leads.here, (omega arith, f, omega arith, l))

-- A refusal is that of the earliest bad record, and there the lowest number.
pub refused_record : (list : List ℕ) (n index : ℕ) → records_of list ≡ refused n index → RefusedRecord list n index
unfolding records_of
refused_record list n index e =
    let (rest, before, facts) = from-refused (length list) 0 list n index (omega arith) e in
    let (some, number, nonzero, few) = facts in
    let holds = first_holds n (record_refusals index rest) number nonzero in
    let rising = record_rising index rest in
    record {
      rest = rest;
      before = before;
      some = some;
      number = number;
      holds = holds;
      lowest = first-lowest 20 24 holds rising;
      in_table = first-within 20 24 holds rising;
      few = few;
    }
