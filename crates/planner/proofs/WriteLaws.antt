-- Laws of the one packet that a list of reads of one cell gives.
use Prim.Native.Nat.{ℕ, ◌≤◌, ◌<◌}
use mathlib.Core.Path.{◌≡◌, refl, sym, ap, ◌∙◌}
use mathlib.Core.List.{List, [], ◌∷◌, ◌++◌}
use mathlib.Core.Bool.{true, false, not, ◌&&◌}
use native.Mathlib.Omega.{arith}
use Rattle.std.proofs.Common.{Option, Some, Result, Ok, Err}
use Rattle.std.specs.Prelude.{IfSome}
use Rattle.std.specs.Result.{result_unwrap_or}
use lib.ListN.{length, take, drop, take-append-drop}
use lib.Seq.{length-take-le, take-append-le, drop-append-le}
use lib.Dec.{eqb}
use borrow.Author.Tests.{eq-eqb, le-ltb}
use Rattle.lbp16.specs.Answer.{Answer}
use Rattle.lbp16.specs.Space.{space_of, row}
use Rattle.lbp16.specs.declared.space.Row.{Row}
use Rattle.lbp16.specs.Word.{word_of, out_of_range, written, listed}
use Rattle.lbp16.specs.declared.Refusal.{Refusal}
use Rattle.lbp16.proofs.SpaceLaws.{size_le, number_le}
use Rattle.packet.specs.Bytes.{bytes_of}
use Rattle.cue.specs.declared.records.Record.{Record}
use Rattle.cue.specs.Records.{record_at, brief}
use Rattle.packet.specs.Step.{Step}
use Rattle.planner.specs.Planner.{OneCell}
use Rattle.planner.specs.Inside.{framed_command, still_fields, still_output, Proposed, StillPut}
use Rattle.planner.proofs.PutLaws.{kept-none}
use Rattle.planner.proofs.OneCellLaws.{cell-is}

-- the word of the command that reads the cell `count` times: no field is out of range
module _ (cell : Record) (count : ℕ) (line : Row) (r : Result ℕ Refusal) (l : line ≡ row (space_of cell.space))
    (e : listed r ≡ written (record {
      write = false;
      address = true;
      info = false;
      space = cell.space;
      size = line.size;
      increment = false;
      count = count;
    })) (h : cell.space ≤ 7) (k : count ≤ 127) where
  answered : listed r ≡ Answer.accepted (word_of (still_fields count cell) ∷ [])
  unfolding written out_of_range still_fields
  answered =
      rw l at e
      ∙ rw (le-ltb 7 cell.space h, le-ltb 3 (row (space_of cell.space)).size (size_le _), le-ltb 127 count k) refl

  pub still-word : result_unwrap_or r 0 ≡ word_of (still_fields count cell)
  unfolding listed
  still-word = go r answered
    where
      go : (r : Result ℕ Refusal) → listed r ≡ Answer.accepted (word_of (still_fields count cell) ∷ [])
          → result_unwrap_or r 0 ≡ word_of (still_fields count cell)
      go (Ok w) d = cc
      go (Err f) d = let y : ◌≡◌ {A = ℕ} 0 1 = cc in absurd (omega arith)

-- a record that is equal to the cell's and reads passes all three tests
pub reads_true : (r cell : Record) → r ≡ cell → r.write ≡ false
    → (not r.write && eqb r.space cell.space && eqb r.address cell.address) ≡ true
reads_true r cell e w =
    let s = eq-eqb r.space cell.space (ap (λ (x : Record). x.space) e) in
    let a = eq-eqb r.address cell.address (ap (λ (x : Record). x.address) e) in
    rw (w, s, a) refl

-- nothing is written where the list is another, or the room too small
pub nothing : (l : List ℕ) → Proposed 0 (length l) l l
nothing l = record { fits = omega arith; kept = kept-none }

-- what the count says where one is found
module _ {o : Option ℕ} (count : ℕ) (e : o ≡ Some count) where
  pub found-few : IfSome o (λ n. n ≤ 127) → count ≤ 127
  found-few h = rw e at h

  pub found-counts : {list : List ℕ} → ((n : ℕ) (x : Step) → OneCell list n x → o ≡ Some n) → (n : ℕ) (x : Step) → OneCell list n x → count ≡ n
  found-counts h n x c = let s : Some count ≡ Some n = sym e ∙ h n x c in cc

-- `count` is what the list's records were counted to
module _ (list : List ℕ) (count : ℕ) (few : count ≤ 127) (counts : (n : ℕ) (x : Step) → OneCell list n x → count ≡ n) where
  pub still-small : (l : List ℕ) → length l < 8 → StillPut list 0 (length l) l
  still-small l e = record { eight = λ n x o h. absurd (omega arith) }

  module _ (cell : Record) (word : ℕ) (before after : List ℕ) (c : cell ≡ record_at list) (room : 8 ≤ length before)
      (w : cell.space ≤ 7 → count ≤ 127 → word ≡ word_of (still_fields count cell))
      (put : after ≡ framed_command word cell.address ++ drop 8 before) where
    pub still_proposed : Proposed 8 (length before) before after
    unfolding framed_command bytes_of
    still_proposed = record { fits = room; kept = record { beyond = rw put refl } }

    front-is : take 8 after ≡ framed_command word cell.address
    unfolding framed_command bytes_of
    front-is = rw put refl

    pub still-put : StillPut list 8 (length before) after
    unfolding still_output brief
    still-put =
        record {
          eight = λ n x o h.
              let e : cell ≡ brief x = c ∙ cell-is list n x o in
              let s : cell.space ≤ 7 = rw e (number_le x.space) in
              let k = counts n x o in
              (refl, front-is ∙ rw (w s few, k, e) refl);
        }

-- where nothing was put for reads of one cell, what the method proposes stands alone
pub proposed_after : (list before mid after : List ℕ) (n m : ℕ) → Proposed n (length before) before mid
    → StillPut list n (length before) mid → n ≡ 0 → Proposed m (length mid) mid after
    → Proposed m (length before) before after × StillPut list m (length before) after
proposed_after list before mid after n m p s e q =
    let same : mid ≡ before = rw e at p.kept.beyond in
    (rw same at q, record { eight = λ k x o h. let z = (s.eight k x o h).0 in absurd (omega arith) })

-- the same of a room whose first `most` bytes were lent
module _ (list before lent : List ℕ) (n most : ℕ) (h : most ≤ length before) (l : length lent ≡ length (take most before))
    (p : Proposed n (length (take most before)) (take most before) lent) where
  size : length (take most before) ≡ most
  size = length-take-le most before h

  pub lent_proposed : Proposed n most before (lent ++ drop most before)
  lent_proposed =
      let f : n ≤ most = rw size at p.fits in
      let whole = take-append-drop most before in
      let a : drop n (lent ++ drop most before) ≡ drop n lent ++ drop most before =
      drop-append-le n lent (drop most before) (rw (l, size) f) in
      let b : drop n (take most before ++ drop most before) ≡ drop n (take most before) ++ drop most before =
      drop-append-le n (take most before) (drop most before) (rw size f) in
      let c : drop n (take most before ++ drop most before) ≡ drop n before = ap (λ y. drop n y) whole in
      record { fits = f; kept = record { beyond = a ∙ rw p.kept.beyond (sym b ∙ c) } }

  pub lent_still : StillPut list n (length (take most before)) lent → StillPut list n most (lent ++ drop most before)
  lent_still s =
      record {
        eight = λ k x o g.
            let (e, f) = s.eight k x o (rw size g) in
            (e, take-append-le 8 lent (drop most before) (rw (l, size) g) ∙ f);
      }
