-- What our own card records: its runs do not depend on what the reply room held, and its parts are judged good.
use Prim.Native.Nat.{ℕ, suc, ◌+◌, ◌≤◌, ◌<◌}
use mathlib.Core.Path.{◌≡◌, refl, sym, ap, ◌∙◌}
use mathlib.Core.Bool.{true, ◌&&◌}
use mathlib.Core.List.{List, [], ◌∷◌, ◌++◌}
use native.Mathlib.Omega.{arith}
use lib.ListN.{length, take, drop, replicate, length-append, length-take, length-drop, length-replicate}
use lib.Seq.{take-append_seam, drop-drop}
use borrow.Author.Tests.{eq-eqb, le-ltb}
use Rattle.lbp16.specs.Answer.{Answer}
use Rattle.lbp16.specs.declared.pointer.Pointers.{Pointers}
use Rattle.packet.specs.Step.{values_read}
use Rattle.packet.specs.Command.{limit}
use Rattle.packet.specs.Judge.{Verdict, refused, accepted}
use Rattle.packet.specs.Verdict.{answer_to}
use Rattle.card.specs.Run.{Outcome, checked, outcome, run_packet}
use Rattle.card.proofs.RunLaws.{run_checked, run_answers_check, answered-length, checked-cases}
use Rattle.cue.specs.Output.{framed, front_of, behind_frame}
use Rattle.cue.specs.Play.{is_accepted, reply_length, play}
use Rattle.cue.proofs.OutputLaws.{framed-front, framed-part, framed-behind}
use Rattle.recording.specs.Recording.{found_pair, reply_pair, pair_left, answered_pair, ran_pair, front_pair, pair_at}
use Rattle.recording.specs.Show.{shown_run, reply_in, shown, replies_of}
use Rattle.recording.specs.declared.pair.Pair.{Pair}
use Rattle.recording.proofs.ReplyLaws.{wrong_self}
use Rattle.recording.proofs.PairLaws.{answered-fits}

-- Two runs that differ only in what the reply room held answer the same and leave the same.
pub record Alike (a b : Outcome) : Type 0 where
  pub answer : a.answer ≡ b.answer
  pub store : a.store ≡ b.store
  pub pointers : a.pointers ≡ b.pointers
  pub reply : reply_in a ≡ reply_in b

module _ (packet store : List ℕ) (p : Pointers) where
  alike : (a b : List ℕ) (v : Verdict) → checked packet store p ≡ v → Alike (outcome v store p a) (outcome v store p b)
  unfolding outcome reply_in answer_to reply_length
  alike a b (refused n place) e = record { answer = refl; store = refl; pointers = refl; reply = refl }
  alike a b (accepted c) e =
      let values = values_read c.steps store in
      let l = (answered-length packet store p c e).0 in
      record {
        answer = refl;
        store = refl;
        pointers = refl;
        reply = rw (← l, take-append_seam values (drop (length values) a), take-append_seam values (drop (length values) b)) refl;
      }

  pub rooms-alike : (a b : List ℕ) → length a ≡ limit → length b ≡ limit
      → Alike (run_packet packet store p a) (run_packet packet store p b)
  rooms-alike a b l m =
      rw (run_checked packet store p a l, run_checked packet store p b m) (alike a b (checked packet store p) refl)

  module _ (room : List ℕ) (l : length room ≡ limit) where
    pub shown-alike : Alike (run_packet packet store p room) (shown_run packet store p)
    unfolding shown_run
    shown-alike = rooms-alike room (replicate limit 0) l (length-replicate {A = ℕ} limit 0)

    -- the room keeps its length
    pub room-kept : length (run_packet packet store p room).reply ≡ limit
    unfolding outcome
    room-kept = rw (run_checked packet store p room l) (go (checked packet store p) refl)
      where
        go : (v : Verdict) → checked packet store p ≡ v → length (outcome v store p room).reply ≡ limit
        go (refused n place) e = l
        go (accepted c) e =
            let a = answered-length packet store p c e in
            rw (length-append, length-drop) (omega (arith, a.0, a.1))

    -- an accepted packet's bytes, and its reply's, can be counted in two
    pub accepted-short : is_accepted (run_packet packet store p room).answer ≡ true → length packet ≤ limit
    unfolding is_accepted answer_to
    accepted-short e =
        checked-cases packet store p (λ v. is_accepted (answer_to v) ≡ true → length packet ≤ limit)
        (λ b q. let z : ◌≡◌ {A = ℕ} 0 1 = cc in absurd (omega arith))
        (λ b n q. let z : ◌≡◌ {A = ℕ} 0 1 = cc in absurd (omega arith))
        (λ b n q. n)
        (ap is_accepted (sym (run_answers_check packet store p room l)) ∙ e)

    pub reply-short : length (reply_in (run_packet packet store p room)) ≤ limit
    unfolding reply_in
    reply-short = let f = answered-fits packet store p room l in simp length-take (omega arith)

-- A packet behind its frame, and behind it any framed bytes for its reply.
module _ (packet found tail store : List ℕ) (p : Pointers) (room : List ℕ) (n : length packet < 65536) (m : length found < 65536) where
  answered-accepted : (k : ℕ) (a : Answer) (reply behind : List ℕ) → is_accepted a ≡ true
      → answered_pair a k reply behind ≡ reply_pair (front_of behind) k (take (reply_length a) reply) behind
  unfolding answered_pair is_accepted
  answered-accepted k (Answer.accepted values) reply behind e = refl
  answered-accepted k (Answer.refused number place) reply behind e = let z : ◌≡◌ {A = ℕ} 0 1 = cc in absurd (omega arith)

  pub pair-framed : is_accepted (run_packet packet store p room).answer ≡ true
      → pair_at (framed packet ++ (framed found ++ tail)) store p room
      ≡ pair_left (found_pair (length packet) (reply_in (run_packet packet store p room)) found) (run_packet packet store p room).store
      (run_packet packet store p room).pointers
      (run_packet packet store p room).reply
  unfolding pair_at front_pair ran_pair reply_pair reply_in
  pair-framed e =
      rw (
        framed-front packet (framed found ++ tail) n,
        framed-part packet (framed found ++ tail) n,
        framed-behind packet (framed found ++ tail) n,
        answered-accepted (length packet) (run_packet packet store p room).answer (run_packet packet store p room).reply (framed found ++ tail) e,
        framed-front found tail m,
        framed-part found tail m,
      )
      refl

-- both parts passed over
pub behind-both : (n m : ℕ) (rest : List ℕ) → drop (8 + n + m) rest ≡ behind_frame m (behind_frame n rest)
unfolding behind_frame
behind-both n m rest = let e : 8 + n + m ≡ 4 + n + (4 + m) = omega arith in rw (e, drop-drop (4 + m) (4 + n) rest) refl

-- a reply that is the expected one
pub found-good : (n : ℕ) (expected : List ℕ) → found_pair n expected expected ≡ Pair.Good (8 + n + length expected)
unfolding found_pair
found-good n expected =
    rw (eq-eqb (length expected) (length expected) refl, wrong_self expected, le-ltb (length expected) (length expected) (omega arith)) refl

-- Packets played with any rooms, as our card records them.
unfoldable pub zero_rooms : ℕ → List ℕ
zero_rooms i = replicate limit 0

pub play-alike : (packets : List (List ℕ)) (rooms others : ℕ → List ℕ) (store : List ℕ) (p : Pointers)
    → ((i : ℕ) → length (rooms i) ≡ limit) → ((i : ℕ) → length (others i) ≡ limit)
    → play packets rooms store p ≡ play packets others store p
unfolding play reply_in
play-alike [] rooms others store p l m = refl
play-alike (packet ∷ rest) rooms others store p l m =
    let a = rooms-alike packet store p (rooms 0) (others 0) (l 0) (m 0) in
    let o = run_packet packet store p (others 0) in
    let e =
    play-alike rest (λ i. rooms (suc i)) (λ i. others (suc i)) o.store o.pointers (λ i. l (suc i)) (λ i. m (suc i)) in
    rw (a.reply, a.answer, a.store, a.pointers, e) refl

pub zero_rooms_lem : (i : ℕ) → length (zero_rooms i) ≡ limit
unfolding zero_rooms
zero_rooms_lem i = length-replicate {A = ℕ} limit 0

-- one packet more
pub play-more : (packet : List ℕ) (rest : List (List ℕ)) (store : List ℕ) (p : Pointers)
    → play (packet ∷ rest) zero_rooms store p
    ≡ record {
      accepted =
          is_accepted (shown_run packet store p).answer
          && (play rest zero_rooms (shown_run packet store p).store (shown_run packet store p).pointers).accepted;
      replies =
          reply_in (shown_run packet store p)
          ++ (play rest zero_rooms (shown_run packet store p).store (shown_run packet store p).pointers).replies;
      store = (play rest zero_rooms (shown_run packet store p).store (shown_run packet store p).pointers).store;
      pointers = (play rest zero_rooms (shown_run packet store p).store (shown_run packet store p).pointers).pointers;
    }
unfolding play shown_run reply_in zero_rooms
play-more packet rest store p = refl

pub play-replies : (packets : List (List ℕ)) (store : List ℕ) (p : Pointers)
    → (play packets zero_rooms store p).replies ≡ replies_of (shown packets store p)
unfolding play shown replies_of
play-replies [] store p = refl
play-replies (packet ∷ rest) store p =
    let o = shown_run packet store p in
    ap (λ q. q.replies) (play-more packet rest store p)
    ∙ ap (λ r. reply_in o ++ r) (play-replies rest o.store o.pointers)
