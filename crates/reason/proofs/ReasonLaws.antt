-- Laws of a reason: it names the number and the place of the check and of the run, and the bytes before that place are accepted.
use Prim.Native.Nat.{ℕ, ◌≤◌, ◌<◌}
use mathlib.Core.Path.{◌≡◌, refl, sym, ◌∙◌}
use mathlib.Core.List.{List, [], ◌∷◌}
use mathlib.Core.Bool.{Bool, true, false, cond}
use native.Mathlib.Omega.{arith}
use borrow.Author.Tests.{lt-ltb, le-ltb}
use lib.Dec.{ltb}
use lib.ListN.{length, take, length-take}
use Rattle.lbp16.specs.Answer.{Answer}
use Rattle.lbp16.specs.declared.pointer.Pointers.{Pointers}
use Rattle.packet.specs.Command.{limit}
use Rattle.packet.specs.Judge.{Carried, Verdict, refused, accepted, judge}
use Rattle.packet.specs.Verdict.{answer_to}
use Rattle.card.specs.Run.{bad_state, checked_packet, checked, run_packet}
use Rattle.card.proofs.RunLaws.{checked-cases, run_answers_check}
use Rattle.card.proofs.AnswerLaws.{packet-long, packet-judged, check-judge}
use Rattle.packet.proofs.RefusalLaws.{refused-in_table}
use Rattle.packet.proofs.JudgeLaws.{accepted-some}
use Rattle.reason.specs.Reason.{unnamed, named, reason_of, explained, FrontAccepted}
use Rattle.reason.specs.declared.Reason.{Reason}
use Rattle.reason.proofs.FrontLaws.{front-judged}

-- Number and place are the verdict's.
either : (get : Reason → ℕ) (n : ℕ) (b : Bool) (r s : Reason) → get r ≡ n → get s ≡ n → get (cond b r s) ≡ n
either get n true r s e f = e
either get n false r s e f = f

pub told-number : (p : Pointers) (packet : List ℕ) (n place : ℕ) → (reason_of p packet (refused n place)).number ≡ n
unfolding reason_of unnamed named
told-number p packet n place = either (λ (r : Reason). r.number) n (ltb n 3) _ _ refl refl

pub told-place : (p : Pointers) (packet : List ℕ) (n place : ℕ) → (reason_of p packet (refused n place)).place ≡ place
unfolding reason_of unnamed named
told-place p packet n place = either (λ (r : Reason). r.place) place (ltb n 3) _ _ refl refl

-- the check's answer, as a reason names it; the reply length where it is accepted
answer-told : (p : Pointers) (packet : List ℕ) (v : Verdict) → 1 ≤ (reason_of p packet v).number
    → answer_to v ≡ Answer.refused (reason_of p packet v).number (reason_of p packet v).place
unfolding answer_to reason_of unnamed
answer-told p packet (refused n place) l = rw (told-number p packet n place, told-place p packet n place) refl
answer-told p packet (accepted c) l = absurd (omega arith)

-- from the check's answer
pub refused-of : (v : Verdict) (n place : ℕ) → Answer.refused n place ≡ answer_to v → v ≡ refused n place
unfolding answer_to
refused-of (refused m at) n place e = let a : m ≡ n = cc in let b : at ≡ place = cc in rw (a, b) refl
refused-of (accepted c) n place e = let z : ◌≡◌ {A = ℕ} 0 1 = cc in absurd (omega arith)

module _ (packet store : List ℕ) (p : Pointers) where
  -- A reason with a number names what the check refuses with, and so does the run with a whole reply room.
  pub same_as_check : 1 ≤ (explained packet store p).number
      → answer_to (checked packet store p) ≡ Answer.refused (explained packet store p).number (explained packet store p).place
  unfolding explained
  same_as_check l = answer-told p packet (checked packet store p) l

  pub same_as_run : (reply : List ℕ) → length reply ≡ limit → 1 ≤ (explained packet store p).number
      → (run_packet packet store p reply).answer ≡ Answer.refused (explained packet store p).number
      (explained packet store p).place
  same_as_run reply e l = run_answers_check packet store p reply e ∙ same_as_check l

  -- A reason without a number is all 0, and that of a packet that check and run accept.
  pub none-refused : (explained packet store p).number ≡ 0 → (end : Carried) × (checked packet store p ≡ accepted end)
  unfolding explained reason_of unnamed
  none-refused =
      checked-cases packet store p (λ v. (reason_of p packet v).number ≡ 0 → (end : Carried) × (v ≡ accepted end))
      (λ _ e. absurd (omega arith))
      (λ _ _ e. absurd (omega arith))
      (λ fine short. go (judge p packet) refl)
    where
      go : (v : Verdict) → judge p packet ≡ v → (reason_of p packet v).number ≡ 0 → (end : Carried) × (v ≡ accepted end)
      go (refused n place) q e =
          let three = (refused-in_table p packet n place q).in_table.0 in
          let z = sym (told-number p packet n place) ∙ e in
          absurd (omega arith)
      go (accepted c) q e = (c, refl)

  pub all_zero : (end : Carried) → checked packet store p ≡ accepted end → explained packet store p ≡ unnamed 0 0
  unfolding explained reason_of
  all_zero end e = rw e refl

  -- Refusals 1 and 2 name no command.
  pub no_command_named : (n place : ℕ) → checked packet store p ≡ refused n place → n < 3
      → explained packet store p ≡ unnamed n place
  unfolding explained reason_of
  no_command_named n place e l = rw (e, lt-ltb n 3 l) refl

  -- as the code has it: refusal 1, or what packet and pointers alone say
  pub explained-bad : bad_state store p ≡ true → unnamed 1 0 ≡ explained packet store p
  unfolding explained checked reason_of
  explained-bad h = rw h refl

  pub explained-fine : bad_state store p ≡ false → reason_of p packet (checked_packet p packet) ≡ explained packet store p
  unfolding explained checked
  explained-fine h = rw h refl

  -- From 3 on the bytes before the place are accepted.
  pub front-accepted : (r : Reason) → r ≡ explained packet store p → FrontAccepted packet store p r
  unfolding explained reason_of unnamed
  front-accepted r e l = rw e (by-verdict (rw e at l))
    where
      Says : Verdict → Type 0
      Says v = 3 ≤ (reason_of p packet v).number
          → (end : Carried) × (checked (take (reason_of p packet v).place packet) store p ≡ accepted end)

      go : bad_state store p ≡ false → length packet ≤ limit → (v : Verdict) → judge p packet ≡ v → Says v
      go fine short (accepted c) q l = absurd (omega arith)
      go fine short (refused n place) q l =
          let (end, f) = front-judged p packet n place q in (
            end,
            rw (told-place p packet n place) (check-judge (take place packet) store p fine (rw length-take
                (omega arith)) ∙ f),
          )

      by-verdict : Says (checked packet store p)
      by-verdict =
          checked-cases packet store p Says (λ _ l. absurd (omega arith)) (λ _ _ l. absurd (omega arith))
          (λ fine short. go fine short (judge p packet) refl)

-- Packet and pointers alone, as the code has it.
module _ (p : Pointers) (packet : List ℕ) where
  pub reason_long : limit < length packet → unnamed 2 0 ≡ reason_of p packet (checked_packet p packet)
  unfolding reason_of
  reason_long h = rw (packet-long p packet h) refl

  module _ (short : length packet ≤ limit) where
    pub reason_accepted : (n : ℕ) → Answer.accepted (n ∷ []) ≡ answer_to (judge p packet)
        → unnamed 0 0 ≡ reason_of p packet (checked_packet p packet)
    unfolding reason_of
    reason_accepted n e = let (end, a) = accepted-some _ n e in rw (packet-judged p packet short, a) refl

    pub reason_named : (n place : ℕ) → judge p packet ≡ refused n place
        → named p packet n place ≡ reason_of p packet (checked_packet p packet)
    unfolding reason_of
    reason_named n place e =
        rw (packet-judged p packet short, e, le-ltb n 3 (refused-in_table p packet n place e).in_table.0) refl
