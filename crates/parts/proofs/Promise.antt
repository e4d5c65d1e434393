-- The promise about any sequence of calls.
use Prim.Native.Nat.{ℕ, zero, suc, ◌+◌, ◌≤◌, ◌<◌}
use mathlib.Core.Path.{◌≡◌, refl, sym, ap, ◌∙◌}
use mathlib.Core.List.{List, [], ◌∷◌, ◌++◌, map, append_assoc, append-nil}
use mathlib.Core.Bool.{true}
use native.Mathlib.Omega.{arith}
use lib.ListN.{length, drop, length-append}
use lib.Seq.{drop-drop}
use Rattle.lbp16.specs.Answer.{Answer}
use Rattle.lbp16.proofs.ListLaws.{none_left}
use Rattle.packet.specs.Step.{Step}
use Rattle.cue.specs.Records.{records, records_of}
use Rattle.cue.specs.Packing.{bytes_of_packet}
use Rattle.cue.specs.Compile.{packed, output}
use Rattle.cue.specs.Compile.{bytes_of_output}
use Rattle.cue.proofs.PackerLaws.{output-append}
use Rattle.cue.proofs.RunAll.{run_all}
use Rattle.parts.specs.Taking.{State}
use Rattle.parts.specs.Rule.{Opened, packets_by, packets_of, records_held}
use Rattle.cue.specs.Output.{frame_room}
use Rattle.parts.specs.Parts.{PartCall, part_of}
use Rattle.parts.specs.Promise.{fresh_state, bytes_written, written, Continues, Calls, Goes, Promise, unless, drained}
use Rattle.parts.proofs.HoldLaws.{out-holds}
use Rattle.parts.proofs.FollowLaws.{as_rule, goes, fails, at-end, placed, calls_follow, written-size}
use Rattle.parts.proofs.EndLaws.{demand3_in_parts}
use Rattle.parts.proofs.ReportLaws.{reports}

-- The promise, of any sequence of calls.
pub promise : {list : List ℕ} {at : ℕ} {state out : List ℕ} {s : State Opened} → Calls list at state out s
    → Promise list at state out s
promise {list} {at} {state} {out} {s} calls =
    let f = calls_follow calls in
    let p = placed f in
    let h = out-holds list p.packets p.later p.front in
    record {
      next = as_rule list at state out s f;
      packets = p.packets;
      later = p.later;
      bytes = p.bytes;
      front = p.front;
      held = h.held;
      same = run_all (map bytes_of_packet p.packets) (records_held p.packets) h.holds h.good;
      good = λ xs e part last room n w. goes list at state out s f part last room n w xs e;
      demand3 =
          λ part room n w a. let (xs, e, all) = at-end list at state out s f part true room n w refl a in
          demand3_in_parts list out p xs e all;
      bad = λ m i e part last room n w. fails list at state out s f part last room n w m i e;
      reported = λ m i e rooms w. reports list m i e (length p.later) calls p (omega arith) rooms w;
    }

-- One part with all the bytes, called until nothing comes out, writes the whole list's output.
module _ (list : List ℕ) (xs : List Step) (e : records_of list ≡ records xs) (room : List ℕ) (w : frame_room ≤ length room) where
  abbrev total : List ℕ
  total = bytes_of_output (packets_of list)

  out_le : {at : ℕ} {state out : List ℕ} {s : State Opened} → Promise list at state out s → length out ≤ length total
  out_le p =
      let f : total ≡ bytes_of_output p.packets ++ bytes_of_output p.later = rw (p.front, output-append) refl in
      let n = simp length-append at (ap length f) in
      rw p.bytes (omega arith)

  drains : (fuel : ℕ) {at : ℕ} {state out : List ℕ} {s : State Opened} → Calls list at state out s
      → length total < fuel + length out → out ++ drained fuel state (drop at list) room ≡ total
  unfolding drained unless bytes_written
  drains zero calls h = let l = out_le (promise calls) in absurd (omega arith)
  drains (suc fuel) {at} {state} {out} calls h =
      go g.bytes g.answer (g.all-out refl) (drains fuel (Calls.more (drop at list) true room calls n))
    where
      n : Continues list at (drop at list) true
      n = record { rest = []; follows = sym (append-nil (drop at list)); whole = λ _. refl }

      g : Goes list state out (drop at list) true room
      g = (promise calls).good xs e (drop at list) true room n w

      c : PartCall
      c = part_of state (drop at list) true room

      size : length (written c) ≡ bytes_written c.answer
      size = written-size state (drop at list) true room (calls_follow calls).fine w

      go : (m : ℕ) → c.answer ≡ Answer.accepted (m ∷ []) → (m ≡ 0 → out ≡ total)
          → (length total < fuel + length (out ++ written c)
          → (out ++ written c) ++ drained fuel c.state (drop (at + c.taken) list) room ≡ total)
          → out ++ (written c ++ unless (bytes_written c.answer) (drained fuel c.state (drop c.taken (drop at list)) room)) ≡ total
      go zero a z more =
          let b : bytes_written c.answer ≡ 0 = rw a refl in
          let s : written c ≡ [] = none_left (written c) (size ∙ b) in
          rw (b, s) (append-nil out ∙ z refl)
      go (suc k) a z more =
          let b : bytes_written c.answer ≡ suc k = rw a refl in
          let l : length (out ++ written c) ≡ length out + suc k = rw (length-append, size, b) refl in
          rw (b, drop-drop c.taken at list, ← append_assoc) (more (rw l (omega arith)))

  pub one-part : (fuel : ℕ) → length total < fuel → drained fuel fresh_state list room ≡ output xs
  unfolding output packed packets_of packets_by bytes_of_output
  one-part fuel h =
      let total-is : total ≡ output xs = rw e refl in
      drains fuel Calls.none (omega arith) ∙ total-is
