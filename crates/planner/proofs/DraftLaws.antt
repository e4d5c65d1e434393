-- Laws of the method's numbers: what is in range where no test holds, and what a turn keeps.
use Prim.Native.Nat.{ℕ, ◌-◌, ◌≤◌, ◌<◌}
use mathlib.Core.Path.{◌≡◌, refl, ◌∙◌}
use mathlib.Core.List.{List}
use mathlib.Core.Bool.{false, ◌||◌}
use native.Mathlib.Omega.{arith}
use lib.ListN.{length, take, drop, length-take, length-drop}
use lib.Dec.{ltb}
use borrow.Author.Tests.{ltb-false}
use Rattle.lbp16.proofs.BoolLaws.{or_false}
use Rattle.packet.specs.Step.{Kind}
use Rattle.cue.specs.Records.{record_bytes}
use Rattle.cue.proofs.PackingLaws.{record_bytes_le}
use Rattle.planner.specs.Inside.{Sized, Kept, Proposed}
use Rattle.planner.specs.declared.draft.Draft.{Draft}
use Rattle.planner.proofs.PutLaws.{kept-none, kept-both, kept-later}

pub sized : (p : Draft) (room : ℕ)
    → (ltb 127 p.count || (ltb 1472 p.packet || (ltb 1472 p.reply || (ltb 2000000 p.end
    || (ltb room p.end || (ltb p.end p.frame || ltb p.end p.word))))))
    ≡ false → Sized p room
sized p room e =
    let q1 = or_false (ltb 127 p.count) _ e in
    let q2 = or_false (ltb 1472 p.packet) _ q1.1 in
    let q3 = or_false (ltb 1472 p.reply) _ q2.1 in
    let q4 = or_false (ltb 2000000 p.end) _ q3.1 in
    let q5 = or_false (ltb room p.end) _ q4.1 in
    let q6 = or_false (ltb p.end p.frame) _ q5.1 in
    record {
      count = ltb-false _ _ q1.0;
      packet = ltb-false _ _ q2.0;
      reply = ltb-false _ _ q3.0;
      most = ltb-false _ _ q4.0;
      end = ltb-false _ _ q5.0;
      frame = ltb-false _ _ q6.0;
      word = ltb-false _ _ q6.1;
    }

-- Between two records: the room keeps its length, the packets stand in it, and nothing has changed behind them.
pub record Drafting (before out : List ℕ) (p : Draft) : Type 0 where
  pub size : length out ≡ length before
  pub sized : Sized p (length out)
  pub kept : Kept p.end before out

-- the same in another room that suffices
sized_in : {p : Draft} {room : ℕ} (wide : ℕ) → p.end ≤ wide → Sized p room → Sized p wide
sized_in wide h s =
    record {
      count = s.count;
      packet = s.packet;
      reply = s.reply;
      most = s.most;
      end = h;
      frame = s.frame;
      word = s.word;
    }

pub draft_first : (out : List ℕ) (p : Draft) → Sized p 0 → Drafting out out p
draft_first out p s =
    record { size = refl; sized = sized_in (length out) (omega (arith, s.end)) s; kept = kept-none }

pub draft_sums : {before out : List ℕ} {p : Draft} → Drafting before out p → Sized p p.end
draft_sums {before} {out} {p} d = sized_in p.end (omega arith) d.sized

pub draft_again : {before out after : List ℕ} {p q : Draft} → Drafting before out p → p.end ≤ q.end → Sized q (length out)
    → length after ≡ length out → Kept q.end out after → Drafting before after q
draft_again d rises sized size kept =
    record { size = size ∙ d.size; sized = rw size sized; kept = kept-both (kept-later d.kept rises) kept }

pub draft_last : {before out : List ℕ} {p : Draft} → Drafting before out p → Proposed p.end (length before) before out
draft_last d = let e = d.size in let s = d.sized.end in record { fits = omega arith; kept = d.kept }

-- a record taken off the front leaves fewer bytes
pub shorter : (rest : List ℕ) (n : ℕ) (k : Kind) → n ≡ record_bytes k → (length rest ≡ 0 → ⊥)
    → length (take (length rest - n) (drop n rest)) < length rest
shorter rest n k e h = let b = record_bytes_le k in rw (length-take, length-drop) (omega arith)
