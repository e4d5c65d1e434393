-- A packet with its reply, from what the code finds and runs.
use Prim.Native.Nat.{ℕ, ◌+◌, ◌-◌, ◌≤◌}
use mathlib.Core.Path.{◌≡◌, refl, sym, ◌∙◌}
use mathlib.Core.Bool.{Bool, true, false, cond}
use mathlib.Core.List.{List}
use native.Mathlib.Omega.{arith}
use native.Mathlib.Nat.{add-sub_cancel_left}
use lib.Dec.{eqb, ltb}
use lib.ListN.{length, take, drop}
use lib.Seq.{length-take-le}
use borrow.Author.Tests.{eqb-true, ltb-false}
use Rattle.lbp16.specs.Answer.{Answer}
use Rattle.lbp16.specs.declared.pointer.Pointers.{Pointers}
use Rattle.packet.specs.Command.{limit}
use Rattle.packet.specs.Judge
use Rattle.packet.specs.Verdict.{answer_to, verdict_listed}
use Rattle.std.proofs.Common.{Ok, Err}
use Rattle.packet.proofs.SliceLaws.{tail-whole}
use Rattle.lbp16.specs.declared.Refusal.{Refusal}
use Rattle.card.specs.Run.{Outcome, checked, run_packet, ran}
use Rattle.card.specs.declared.run.Ran.{Ran}
use Rattle.card.proofs.RunLaws.{run_answers_check, answered-length}
use Rattle.cue.specs.Output.{Front, front_of, bytes_in_frame, behind_frame, frame_listed}
use Rattle.cue.specs.Play.{is_accepted, reply_length}
use Rattle.recording.specs.Recording.{first_wrong, found_pair, reply_pair, PairLeft, pair_left, answered_pair, ran_pair}
use Rattle.recording.specs.Recording.{front_pair, pair_at, good_bytes, verdict_of}
use Rattle.recording.specs.Recording
use Rattle.cue.specs.declared.frame.Frame.{Frame}
use Rattle.recording.specs.declared.pair.Pair.{Pair}
use Rattle.cue.proofs.FrameLaws.{front-within, frame-length}
use Rattle.recording.proofs.ReplyLaws.{wrong_none_same}

-- The answered length is never above the room's.
pub answered-fits : (packet store : List ℕ) (p : Pointers) (room : List ℕ) → length room ≡ limit
    → reply_length (run_packet packet store p room).answer ≤ limit
unfolding reply_length answer_to
answered-fits packet store p room e = rw (run_answers_check packet store p room e) (go (checked packet store p) refl)
  where
    go : (v : Judge.Verdict) → checked packet store p ≡ v → reply_length (answer_to v) ≤ limit
    go (Judge.refused n place) q = omega arith
    go (Judge.accepted c) q = (answered-length packet store p c q).1

-- A packet of n bytes as the code lends and runs it.
module _ (rest : List ℕ) (n : ℕ) (store : List ℕ) (p : Pointers) (room : List ℕ) (r : Ran) (store' room'' : List ℕ)
    (e : ran r store' room'' ≡ run_packet (take (4 + n - 4) (drop 4 rest)) store p room) where
  run_is : ran r store' room'' ≡ run_packet (bytes_in_frame n rest) store p room
  unfolding bytes_in_frame
  run_is = e ∙ rw add-sub_cancel_left refl

  pub ran-refused : (x : Refusal) → r.answer ≡ Err x
      → pair_left Pair.Refused store' r.pointers room'' ≡ ran_pair n rest (run_packet (bytes_in_frame n rest) store p room)
  unfolding ran_pair ran answered_pair verdict_listed
  ran-refused x q = rw (← run_is, q) refl

  module _ (v : ℕ) (q : r.answer ≡ Ok v) where
    -- the answered frame of the room, as the code lends it
    pub ran-fits : length room ≡ limit → length room'' ≡ length room → v ≤ length room''
    unfolding ran verdict_listed reply_length
    ran-fits l k =
        let f = answered-fits (bytes_in_frame n rest) store p room l in
        rw (k, l) (rw (← run_is, q) at f)

    pub ran-lent : length room ≡ limit → length room'' ≡ length room → v ≡ length (take v room'')
    ran-lent l k = sym (length-take-le v room'' (ran-fits l k))

    pub ran-accepted : (pair : Pair)
        → pair ≡ reply_pair (front_of (take (length rest - (4 + n)) (drop (4 + n) rest))) n (take v room'') (take (length rest - (4 + n)) (drop (4 + n) rest))
        → pair_left pair store' r.pointers room'' ≡ ran_pair n rest (run_packet (bytes_in_frame n rest) store p room)
    unfolding ran_pair ran answered_pair verdict_listed reply_length behind_frame
    ran-accepted pair f = rw (← run_is, q, f, tail-whole) refl

-- what is found at the front
module _ (rest store : List ℕ) (p : Pointers) (room : List ℕ) (frame : Frame) (e : frame_listed frame ≡ front_of rest) where
  pub pair_end : frame ≡ Frame.End → pair_left Pair.End store p room ≡ pair_at rest store p room
  unfolding pair_at front_pair
  pair_end q = rw (← e, q) refl

  pub pair-cut : frame ≡ Frame.Cut → pair_left (Pair.Cut false) store p room ≡ pair_at rest store p room
  unfolding pair_at front_pair
  pair-cut q = rw (← e, q) refl

  pub pair-unmarked : frame ≡ Frame.Unmarked → pair_left (Pair.Unmarked false) store p room ≡ pair_at rest store p room
  unfolding pair_at front_pair
  pair-unmarked q = rw (← e, q) refl

  module _ (n : ℕ) (q : frame ≡ Frame.Whole n) where
    pub pair-within : 4 + n ≤ length rest
    pair-within = front-within rest n (rw q at e)

    pub pair-whole : ran_pair n rest (run_packet (bytes_in_frame n rest) store p room) ≡ pair_at rest store p room
    unfolding pair_at front_pair
    pair-whole = rw (← e, q) refl

-- A fault ends the judging, and yes is not said.
unfoldable pub is_yes : Recording.Verdict → Bool
is_yes (Recording.yes n) = true
is_yes (Recording.refused n place) = false
is_yes (Recording.bad_packet i) = false
is_yes (Recording.bad_length i) = false
is_yes (Recording.bad_byte i k) = false
is_yes (Recording.cut j) = false
is_yes (Recording.unmarked j) = false

pub record Fault (pair : Pair) : Type 0 where
  pub stops : good_bytes pair ≡ 0
  pub faults : (i : ℕ) → is_yes (verdict_of pair i) ≡ false

found-cases : (n : ℕ) (expected found : List ℕ) (P : Pair → Type 0) → (found ≡ expected → P (Pair.Good (8 + n + length found)))
    → ((pair : Pair) → Fault pair → P pair) → P (found_pair n expected found)
unfolding found_pair is_yes
found-cases n expected found P good fault = go (eqb (length found) (length expected)) refl (ltb (first_wrong expected found) (length found)) refl
  where
    go : (a : Bool) → eqb (length found) (length expected) ≡ a → (b : Bool) → ltb (first_wrong expected found) (length found) ≡ b
        → P
        (cond a (cond b (Pair.WrongByte (first_wrong expected found)) (Pair.Good (8 + n + length found))) Pair.WrongLength)
    go true l true h = fault _ (record { stops = refl; faults = λ i. refl })
    go true l false h = good (wrong_none_same expected found (eqb-true _ _ l) (ltb-false _ _ h))
    go false l b h = fault _ (record { stops = refl; faults = λ i. refl })

module _ (n : ℕ) (behind : List ℕ) (P : Pair → Type 0) (fault : (pair : Pair) → Fault pair → P pair) where
  reply-cases : (expected : List ℕ) (f : Front) → f ≡ front_of behind
      → ((m : ℕ) → Front.frame m ≡ front_of behind → bytes_in_frame m behind ≡ expected → P (Pair.Good (8 + n + m)))
      → P (reply_pair f n expected behind)
  unfolding reply_pair is_yes
  reply-cases expected Front.end e good = fault _ (record { stops = refl; faults = λ i. refl })
  reply-cases expected Front.cut e good = fault _ (record { stops = refl; faults = λ i. refl })
  reply-cases expected Front.unmarked e good = fault _ (record { stops = refl; faults = λ i. refl })
  reply-cases expected (Front.frame m) e good =
      found-cases n expected (bytes_in_frame m behind) P (λ s. rw (frame-length behind m e) (good m e s)) fault

  answer-cases : (a : Answer) (reply : List ℕ)
      → (is_accepted a ≡ true → (m : ℕ) → Front.frame m ≡ front_of behind → bytes_in_frame m behind ≡ take (reply_length a) reply
      → P (Pair.Good (8 + n + m)))
      → P (answered_pair a n reply behind)
  unfolding answered_pair is_accepted is_yes
  answer-cases (Answer.refused m place) reply good = fault _ (record { stops = refl; faults = λ i. refl })
  answer-cases (Answer.accepted values) reply good =
      reply-cases (take (reply_length (Answer.accepted values)) reply) (front_of behind) refl (good refl)

module _ (rest store : List ℕ) (p : Pointers) (room : List ℕ) where
  -- A packet of n bytes and a reply of m bytes stand at the front, and both are as they should be.
  pub record GoodAt (n m : ℕ) (o : Outcome) : Type 0 where
    pub ran : o ≡ run_packet (bytes_in_frame n rest) store p room
    pub packet : Front.frame n ≡ front_of rest
    pub accepted : is_accepted o.answer ≡ true
    pub reply : Front.frame m ≡ front_of (behind_frame n rest)
    pub same : bytes_in_frame m (behind_frame n rest) ≡ take (reply_length o.answer) o.reply

  -- What holds of the end, of a good pair and of a fault holds of what is found.
  pub pair-cases : (P : PairLeft → Type 0) → (Front.end ≡ front_of rest → P (pair_left Pair.End store p room))
      → ((n m : ℕ) (o : Outcome) → GoodAt n m o → P (pair_left (Pair.Good (8 + n + m)) o.store o.pointers o.reply))
      → ((pair : Pair) (s : List ℕ) (q : Pointers) (r : List ℕ) → Fault pair → P (pair_left pair s q r))
      → P (pair_at rest store p room)
  unfolding pair_at front_pair ran_pair is_yes
  pair-cases P end good fault = go (front_of rest) refl
    where
      go : (f : Front) → f ≡ front_of rest → P (front_pair f rest store p room)
      go Front.end e = end e
      go Front.cut e = fault _ _ _ _ (record { stops = refl; faults = λ i. refl })
      go Front.unmarked e = fault _ _ _ _ (record { stops = refl; faults = λ i. refl })
      go (Front.frame n) e =
          let o = run_packet (bytes_in_frame n rest) store p room in
          answer-cases n (behind_frame n rest) (λ pair. P (pair_left pair o.store o.pointers o.reply))
          (λ pair f. fault _ _ _ _ f)
          o.answer
          o.reply
          (λ a m r s. good n m o (record { ran = refl; packet = e; accepted = a; reply = r; same = s }))
