-- Laws of a packet's text: which one it is, and how it is laid into a room.
use Prim.Native.Nat.{ℕ, ◌+◌, ◌≤◌, ◌<◌}
use mathlib.Core.Path.{◌≡◌, refl, sym, ap, ◌∙◌}
use mathlib.Core.List.{List, [], ◌∷◌, ◌++◌, append-nil}
use mathlib.Core.Bool.{Bool, true, false, cond}
use native.Mathlib.Omega.{arith}
use native.Mathlib.Nat.{zero-add}
use borrow.Author.Tests.{lt-ltb, le-ltb, ltb-false, eq-eqb, ne_eqb}
use Rattle.std.proofs.Common.{Option, Some, None}
use Rattle.std.specs.Prelude.{IfSome}
use lib.Dec.{ltb}
use lib.ListN.{length, take, drop, length-append, length-take}
use lib.Seq.{sets, sets-eq}
use Rattle.lbp16.specs.declared.pointer.Pointers.{Pointers}
use Rattle.packet.specs.Command.{limit}
use Rattle.packet.specs.Judge.{Carried, Verdict, refused, accepted, begin, judge_from, judge}
use Rattle.packet.proofs.RefusalLaws.{refused-in_table}
use Rattle.card.specs.Run.{checked_packet}
use Rattle.reason.specs.Reason.{pointers_left, unnamed, reason_of, reason_listed}
use Rattle.reason.specs.declared.Reason.{Reason}
use Rattle.reason.proofs.FrontLaws.{front-judged}
use Rattle.reason.proofs.ReasonLaws.{told-number, told-place}
use Rattle.text.specs.Number.{ascii}
use Rattle.text.specs.Room.{Filled, filled}
use Rattle.packet_text.specs.Wording.{refused_text, command_text}
use Rattle.packet_text.specs.Packet.{lines_text, refusal_text, refused_packet, text_by, packet_text, packet_left, shown_packet}
use Rattle.packet_text.specs.Inside.{laid_at}
use Rattle.packet_text.proofs.SizeLaws.{Small, small-alone, refused-size, command-size}
use Rattle.packet_text.proofs.ListingLaws.{laid-bytes, laid-room, laid_both}

-- A packet without a refusal, and one with it.
pub record Accepts (p : Pointers) (packet : List ℕ) : Type 0 where
  pub short : length packet ≤ limit
  pub end : Carried
  pub judged : judge p packet ≡ accepted end
  pub verdict : checked_packet p packet ≡ judge p packet

pub record Refuses (p : Pointers) (packet : List ℕ) (r : Reason) : Type 0 where
  number : ℕ
  place : ℕ
  verdict : checked_packet p packet ≡ refused number place
  pub short : length (take r.place packet) ≤ limit
  pub front : (end : Carried) × (judge p (take r.place packet) ≡ accepted end)

nothing-judged : (p : Pointers) → judge p [] ≡ accepted (begin p)
unfolding judge judge_from
nothing-judged p = refl

module _ (p : Pointers) (packet : List ℕ) (r : Reason) (e : r ≡ reason_of p packet (checked_packet p packet)) where
  Either : Type 0
  Either = ((r.number ≡ 0 → ⊥) → Refuses p packet r) × (r.number ≡ 0 → Accepts p packet)

  module _ (n place : ℕ) (v : checked_packet p packet ≡ refused n place) (some : n ≡ 0 → ⊥) where
    number_is : r.number ≡ n
    number_is = ap (λ (x : Reason). x.number) (e ∙ ap (reason_of p packet) v) ∙ told-number p packet n place

    place_is : r.place ≡ place
    place_is = ap (λ (x : Reason). x.place) (e ∙ ap (reason_of p packet) v) ∙ told-place p packet n place

    refuses : length (take place packet) ≤ limit → (end : Carried) × (judge p (take place packet) ≡ accepted end) → Either
    unfolding Either
    refuses l f = (
      λ _. record { number = n; place = place; verdict = v; short = rw place_is l; front = rw place_is f },
      λ z. absurd (some (sym number_is ∙ z)),
    )

  cases : Either
  unfolding Either checked_packet reason_of unnamed
  cases = by_length (ltb limit (length packet)) refl
    where
      go : ltb limit (length packet) ≡ false → (v : Verdict) → judge p packet ≡ v → Either
      go l (accepted c) q =
          let same : checked_packet p packet ≡ judge p packet = rw l refl in
          let none : r.number ≡ 0 = ap (λ (x : Reason). x.number) (e ∙ ap (reason_of p packet) (same ∙ q)) in
          (λ z. absurd (z none), λ _. record { short = ltb-false limit (length packet) l; end = c; judged = q; verdict = same })
      go l (refused n place) q =
          let three = (refused-in_table p packet n place q).in_table.0 in
          let short = ltb-false limit (length packet) l in
          refuses n place (rw l q) (λ z. omega arith) (rw length-take (omega arith)) (front-judged p packet n place q)

      by_length : (b : Bool) → ltb limit (length packet) ≡ b → Either
      by_length true q = refuses 2 0 (rw q refl) (λ z. omega arith) (omega arith) (begin p, nothing-judged p)
      by_length false q = go q (judge p packet) refl

  pub with_refusal : (r.number ≡ 0 → ⊥) → Refuses p packet r
  unfolding Either
  with_refusal h = cases.0 h

  pub without_refusal : r.number ≡ 0 → Accepts p packet
  unfolding Either
  without_refusal h = cases.1 h

  -- the text of each
  pub refused-text : Refuses p packet r → lines_text p (take r.place packet) ++ refusal_text packet r ≡ packet_text p packet
  unfolding packet_text text_by refused_packet
  refused-text h =
      rw h.verdict (ap (λ (x : Reason). lines_text p (take x.place packet) ++ refusal_text packet x) (e ∙ ap (reason_of p packet) h.verdict))

  pub refused-pointers : Refuses p packet r → p ≡ pointers_left (checked_packet p packet) p
  unfolding pointers_left
  refused-pointers h = rw h.verdict refl

-- the same of the code's reason
pub none-accepts : (p : Pointers) (packet : List ℕ) (o : Option Reason) → reason_listed o ≡ reason_of p packet (checked_packet p packet)
    → o ≡ None → Accepts p packet
unfolding reason_listed unnamed
none-accepts p packet o e n = without_refusal p packet (reason_listed o) e (rw n refl)

module _ (p : Pointers) (packet : List ℕ) (o : Option Reason) (e : reason_listed o ≡ reason_of p packet (checked_packet p packet))
    (r : Reason) (s : o ≡ Some r) where
  pub some-is : r ≡ reason_of p packet (checked_packet p packet)
  unfolding reason_listed
  some-is = rw s at e

  pub some-refuses : IfSome o (λ (r : Reason). 1 ≤ r.number) → Refuses p packet r
  some-refuses h = let n : 1 ≤ r.number = rw s at h in with_refusal p packet r some-is (λ z. omega arith)

pub accepted-text : (p : Pointers) (packet : List ℕ) → Accepts p packet → text_by p packet (judge p packet) ≡ packet_text p packet
unfolding packet_text
accepted-text p packet h = ap (text_by p packet) (sym h.verdict)

module _ (p : Pointers) (packet : List ℕ) (end : Carried) (j : judge p packet ≡ accepted end) where
  pub no_commands : length packet ≡ 0 → ascii "  no commands\n" ≡ text_by p packet (judge p packet)
  unfolding text_by
  no_commands z = rw (j, eq-eqb _ _ z) refl

  pub some_commands : (length packet ≡ 0 → ⊥) → lines_text p packet ≡ text_by p packet (judge p packet)
  unfolding text_by
  some_commands z = rw (j, ne_eqb _ _ z) refl

-- no command leaves the pointers as they were
pub none-moved : (p : Pointers) (packet : List ℕ) → length packet ≡ 0 → p ≡ pointers_left (judge p packet) p
unfolding judge judge_from begin pointers_left
none-moved p [] z = refl
none-moved p (b ∷ bs) z = absurd (omega arith)

-- A refusal's words.
pub refusal-short : (packet : List ℕ) (r : Reason) → r.number < 3 → ascii "  " ++ refused_text r ≡ refusal_text packet r
unfolding refusal_text
refusal-short packet r h = rw (lt-ltb r.number 3 h, append-nil) refl

pub refusal-whole : (packet : List ℕ) (r : Reason) → 3 ≤ r.number
    → ascii "  " ++ refused_text r ++ (ascii "  " ++ command_text packet r) ≡ refusal_text packet r
unfolding refusal_text
refusal-whole packet r h = rw (le-ltb r.number 3 h) refl

pub refusal-size : (p : Pointers) (packet : List ℕ) (r : Reason) → r ≡ reason_of p packet (checked_packet p packet)
    → length (refusal_text packet r) ≤ 4816
unfolding refusal_text ascii
refusal-size p packet r e = go (ltb r.number 3) refl
  where
    s : Small packet r
    s = rw e (small-alone packet p)

    go : (b : Bool) → ltb r.number 3 ≡ b
        → length (ascii "  " ++ refused_text r ++ cond b [] (ascii "  " ++ command_text packet r)) ≤ 4816
    go true q = let a = refused-size packet r s in simp length-append (omega arith)
    go false q =
        let a = refused-size packet r s in
        let b = command-size packet r s (ltb-false r.number 3 q) in
        simp length-append (omega arith)

-- A text laid behind another is one with it.
module _ (a b : List ℕ) (room room₁ room₂ : List ℕ) (k n : ℕ) (e : filled k room₁ ≡ laid_at a 0 room) (m : n ≡ length b)
    (o : room₂ ≡ sets room₁ k b) where
  pub laid_join : filled (k + n) room₂ ≡ laid_at (a ++ b) 0 room
  laid_join =
      let q : k ≡ length a = laid-bytes a room room₁ k e in
      let f : room₁ ≡ sets room 0 a = laid-room a room room₁ k e in
      laid_both a b room room₁ room₂ k n q f m o

-- The bytes told are the text's, and where it fits it stands at the front.
module _ (text room after : List ℕ) (n : ℕ) (e : filled n after ≡ laid_at text 0 room) where
  pub laid-whole : length text ≤ length room → after ≡ text ++ drop (length text) room
  laid-whole h = laid-room text room after n e ∙ (sets-eq text room 0 (omega arith) ∙ rw zero-add refl)

-- The two passes together are the definition.
module _ (p : Pointers) (packet room : List ℕ) (k : ℕ) (none none₁ : List ℕ) (e : filled k none₁ ≡ laid_at (packet_text p packet) 0 none) where
  pub too_little : length room < k → packet_left 26 k p room ≡ shown_packet p packet room
  unfolding shown_packet
  too_little h =
      let b = laid-bytes (packet_text p packet) none none₁ k e in
      rw (lt-ltb (length room) (length (packet_text p packet)) (omega arith), b) refl

  pub enough : k ≤ length room → (n : ℕ) (after : List ℕ) (q : Pointers) → filled n after ≡ laid_at (packet_text p packet) 0 room
      → q ≡ pointers_left (checked_packet p packet) p → packet_left 0 n q after ≡ shown_packet p packet room
  unfolding shown_packet
  enough h n after q f g =
      let b = laid-bytes (packet_text p packet) none none₁ k e in
      let c = laid-bytes (packet_text p packet) room after n f in
      let w = laid-whole (packet_text p packet) room after n f (omega arith) in
      rw (le-ltb (length room) (length (packet_text p packet)) (omega arith), c, w, g) refl

-- as the code counts it
pub text-fits : {n : ℕ} (text : List ℕ) (k : ℕ) (room after : List ℕ) → filled k after ≡ laid_at text 0 room → k ≤ n → length text ≤ n
unfolding laid_at
text-fits text k room after e l = let q : k ≡ 0 + length text = ap (λ (f : Filled). f.next) e in omega arith
