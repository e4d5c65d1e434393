-- A record is judged by its own bytes: what follows it in the list and, 21 apart, its index play no part.
use Prim.Native.Nat.{ℕ, ◌≤◌}
use mathlib.Core.Path.{◌≡◌, refl}
use mathlib.Core.Logic.{◌≢◌}
use mathlib.Core.List.{List, ◌++◌}
use mathlib.Core.Bool.{Bool, true, false, not, ◌&&◌}
use native.Mathlib.Omega.{arith}
use lib.Dec.{eqb}
use lib.ListN.{length, take, get_or, length-append, get_or-append}
use lib.Seq.{take-append-le}
use borrow.Author.Tests.{le-ltb, ne_eqb}
use Rattle.lbp16.proofs.ListLaws.{slice_front}
use Rattle.packet.specs.Step.{Kind, read, write, infoRead, is_info, carried, is_write}
use Rattle.packet.proofs.StepLaws.{pick-plain}
use Rattle.packet.specs.Rules.{first}
use Rattle.packet.proofs.RuleLaws.{none-holds, first-of_none}
use Rattle.cue.specs.Records.{record_refusals, record_step, record_kind, record_bytes, record_space, bytes_of_value, upper_half}
use Rattle.cue.specs.Records.{mark_at, write_mark, most_records}

-- What the rules look at, the index and the list's end apart, is the same where the same bytes stand in front.
record Alike (r other : List ℕ) : Type 0 where
  pub mark : mark_at other ≡ mark_at r
  pub kind : record_kind other ≡ record_kind r
  pub step : record_step other ≡ record_step r
  pub spare : get_or other 3 0 ≡ get_or r 3 0
  pub upper : (is_write (record_kind r) && not (eqb (upper_half other) 0))
      ≡ (is_write (record_kind r) && not (eqb (upper_half r) 0))

pub same_kind_lem : (r x : List ℕ) → 2 ≤ length r → record_kind (r ++ x) ≡ record_kind r
unfolding record_kind mark_at
same_kind_lem r x h = rw (take-append-le 2 r x h) refl

alike : (r x : List ℕ) → record_bytes (record_kind r) ≤ length r → Alike r (r ++ x)
unfolding record_bytes record_step record_space bytes_of_value upper_half record_kind mark_at carried is_write is_info
alike r x h = go (record_kind r) refl h
  where
    go : (k : Kind) → record_kind r ≡ k → record_bytes k ≤ length r → Alike r (r ++ x)
    go read q h =
        let mark : take 2 (r ++ x) ≡ take 2 r = take-append-le 2 r x (omega arith) in
        let space : get_or (r ++ x) 2 0 ≡ get_or r 2 0 = get_or-append r x 0 2 (omega arith) in
        let address = slice_front 2 4 r x (omega arith) in
        record {
          mark = rw mark refl;
          kind = rw mark refl;
          step = rw (mark, space, address, q) refl;
          spare = get_or-append r x 0 3 (omega arith);
          upper = rw q refl;
        }
    go infoRead q h =
        let p : is_info (record_kind r) ≡ false = pick-plain (eqb (mark_at r) write_mark) in
        let e : ◌≡◌ {A = Bool} true false = rw q at p in
        let z : ◌≡◌ {A = ℕ} 0 1 = cc in
        absurd (omega arith)
    go write q h =
        let mark : take 2 (r ++ x) ≡ take 2 r = take-append-le 2 r x (omega arith) in
        let space : get_or (r ++ x) 2 0 ≡ get_or r 2 0 = get_or-append r x 0 2 (omega arith) in
        let address = slice_front 2 4 r x (omega arith) in
        let value = slice_front 4 6 r x (omega arith) in
        record {
          mark = rw mark refl;
          kind = rw mark refl;
          step = rw (mark, space, address, value) refl;
          spare = get_or-append r x 0 3 (omega arith);
          upper = rw (space, value) refl;
        }

-- the rules' answer at a record's bytes, whatever follows them, at any index but that of 21
pub judged-alike : (i j : ℕ) (r x : List ℕ) → record_bytes (record_kind r) ≤ length r → i ≢ most_records → j ≢ most_records
    → first (record_refusals i (r ++ x)) ≡ first (record_refusals j r)
unfolding record_refusals first
judged-alike i j r x h n m =
    let a = alike r x h in
    let b : record_bytes (record_kind r) ≤ length (r ++ x) = rw length-append (omega arith) in
    rw (
      ne_eqb _ _ n,
      ne_eqb _ _ m,
      a.kind,
      le-ltb _ _ b,
      le-ltb _ _ h,
      a.mark,
      a.step,
      a.spare,
      a.upper,
    ) refl

pub same_step_lem : (r x : List ℕ) → record_bytes (record_kind r) ≤ length r → record_step (r ++ x) ≡ record_step r
same_step_lem r x h = (alike r x h).step

-- a record that no rule refuses at one index is refused at no other but that of 21
pub any_index : (i j : ℕ) (rest : List ℕ) → j ≢ most_records → first (record_refusals i rest) ≡ 0 → first (record_refusals j rest) ≡ 0
unfolding record_refusals
any_index i j rest h e =
    let (few, others) = none-holds (record_refusals i rest) (omega arith) e in
    first-of_none (record_refusals j rest) (ne_eqb _ _ h, others)
