-- Yes means that the recording is what our card records: the replies are those of playing its packets.
use Prim.Native.Nat.{ℕ, zero, suc, ◌+◌, ◌≤◌, ◌<◌}
use mathlib.Core.Path.{◌≡◌, refl, sym, ap, ◌∙◌}
use mathlib.Core.Bool.{Bool, true, false, cond}
use mathlib.Core.List.{List, [], ◌∷◌}
use native.Mathlib.Omega.{arith}
use lib.Dec.{eqb}
use lib.ListN.{length, drop, replicate, length-drop, length-replicate}
use borrow.Author.Tests.{eq-eqb, ne_eqb}
use Rattle.lbp16.specs.declared.pointer.Pointers.{Pointers}
use Rattle.packet.specs.Command.{limit}
use Rattle.card.specs.Run.{Outcome, bad_state}
use Rattle.cue.specs.Output.{frames, with_frame, Front, front_of, bytes_in_frame, behind_frame, with_front, apart_from, apart}
use Rattle.cue.specs.Play.{is_accepted, play}
use Rattle.recording.specs.Recording.{PairLeft, pair_left, pair_at, good_bytes, verdict_of, yes, Left, stopped, judged_from}
use Rattle.recording.specs.Recording
use Rattle.recording.specs.Recording.{judged_parts, judged_in, Said, said, judged}
use Rattle.recording.specs.Show.{shown_run, reply_in, shown, replies_of}
use Rattle.recording.specs.declared.pair.Pair.{Pair}
use Rattle.cue.proofs.FrameLaws.{front-within, whole-frame}
use Rattle.recording.proofs.PairLaws.{is_yes, GoodAt, pair-cases}
use Rattle.recording.proofs.ShowLaws.{shown-alike, room-kept, behind-both, zero_rooms, zero_rooms_lem, play-alike, play-more}
use Rattle.recording.proofs.ShowLaws.{play-replies}
use Rattle.recording.proofs.JudgeLaws.{Accepted}

-- Taking apart: at the end, and past a packet and its reply.
apart-end : (rest : List ℕ) (fuel : ℕ) → Front.end ≡ front_of rest → apart_from fuel rest ≡ frames []
unfolding apart_from with_front
apart-end rest zero e = refl
apart-end rest (suc fuel) e = rw (← e) refl

apart-one : (rest : List ℕ) (n fuel : ℕ) → Front.frame n ≡ front_of rest
    → apart_from (suc fuel) rest ≡ with_frame (bytes_in_frame n rest) (apart_from fuel (behind_frame n rest))
unfolding apart_from with_front
apart-one rest n fuel e = rw ((whole-frame rest n e).length-is, ← e) refl

apart-two : (rest : List ℕ) (n m : ℕ) → Front.frame n ≡ front_of rest → Front.frame m ≡ front_of (behind_frame n rest)
    → (fuel : ℕ) → length rest ≤ fuel → (ps : List (List ℕ))
    → ((most : ℕ) → length (drop (8 + n + m) rest) ≤ most → apart_from most (drop (8 + n + m) rest) ≡ frames ps)
    → apart_from fuel rest ≡ frames (bytes_in_frame n rest ∷ bytes_in_frame m (behind_frame n rest) ∷ ps)
unfolding with_frame
apart-two rest n m e f zero l ps more = absurd (omega (arith, front-within rest n e))
apart-two rest n m e f (suc zero) l ps more = absurd (omega (arith, front-within rest n e))
apart-two rest n m e f (suc (suc fuel)) l ps more =
    let w = front-within rest n e in
    let h = rw behind-both at (more fuel (rw length-drop (omega arith))) in
    rw (apart-one rest n (suc fuel) e, apart-one (behind_frame n rest) m fuel f, h) refl

-- Yes from packet i on: the packets from there, and what they leave.
record YesFrom (n i : ℕ) (rest store : List ℕ) (p : Pointers) (left : Left) : Type 0 where
  packets : List (List ℕ)
  count : n ≡ length packets + i
  recorded : (fuel : ℕ) → length rest ≤ fuel → apart_from fuel rest ≡ frames (shown packets store p)
  accepted : Accepted packets store p
  left-store : left.store ≡ (play packets zero_rooms store p).store
  left-pointers : left.pointers ≡ (play packets zero_rooms store p).pointers

yes-end : (n i at : ℕ) (rest store : List ℕ) (p : Pointers) (room : List ℕ) → Front.end ≡ front_of rest → yes i ≡ yes n
    → YesFrom n i rest store p (stopped (yes i) at (pair_left Pair.End store p room))
unfolding play shown
yes-end n i at rest store p room e h =
    record {
      packets = [];
      count = let z : n ≡ i = cc in omega arith;
      recorded = λ f w. apart-end rest f e;
      accepted = refl;
      left-store = refl;
      left-pointers = refl;
    }

good-reply : (rest store : List ℕ) (p : Pointers) (room : List ℕ) (k m : ℕ) (o : Outcome) → GoodAt rest store p room k m o
    → bytes_in_frame m (behind_frame k rest) ≡ reply_in o
unfolding reply_in
good-reply rest store p room k m o g = g.same

-- one packet more, with its reply
yes-more : (n i : ℕ) (rest store : List ℕ) (p : Pointers) (room : List ℕ) → length room ≡ limit → (k m : ℕ) (o : Outcome)
    → GoodAt rest store p room k m o → (left : Left)
    → YesFrom n (1 + i) (drop (8 + k + m) rest) (shown_run (bytes_in_frame k rest) store p).store
    (shown_run (bytes_in_frame k rest) store p).pointers
    left
    → YesFrom n i rest store p left
unfolding shown
yes-more n i rest store p room l k m o g left more =
    let packet = bytes_in_frame k rest in
    let z = shown_run packet store p in
    let a = shown-alike packet store p room l in
    let ok = sym (ap (λ o. is_accepted o.answer) g.ran ∙ ap is_accepted a.answer) ∙ g.accepted in
    let reply = good-reply rest store p room k m o g ∙ ap reply_in g.ran ∙ a.reply in
    let played = play-more packet more.packets store p in
    record {
      packets = packet ∷ more.packets;
      count = omega (arith, more.count);
      recorded =
          λ f w.
          apart-two rest k m g.packet g.reply f w (shown more.packets z.store z.pointers) more.recorded
          ∙ ap (λ r. frames (packet ∷ r ∷ shown more.packets z.store z.pointers)) reply;
      accepted = ap (λ q. q.accepted) played ∙ rw ok more.accepted;
      left-store = more.left-store ∙ sym (ap (λ q. q.store) played);
      left-pointers = more.left-pointers ∙ sym (ap (λ q. q.pointers) played);
    }

-- what is said after a packet with its reply was found
next : ℕ → ℕ → ℕ → List ℕ → PairLeft → Left
next fuel i at rest t =
    cond (eqb (good_bytes t.pair) 0) (stopped (verdict_of t.pair i) at t)
    (judged_from fuel (1 + i) (at + good_bytes t.pair) (drop (good_bytes t.pair) rest) t.store t.pointers t.room)

next-is : (fuel i at : ℕ) (rest store : List ℕ) (p : Pointers) (room : List ℕ)
    → judged_from (suc fuel) i at rest store p room ≡ next fuel i at rest (pair_at rest store p room)
unfolding judged_from next
next-is fuel i at rest store p room = refl

-- with so much fuel, yes means what it should
Means : ℕ → Type 0
Means fuel =
    (i at : ℕ) (rest store : List ℕ) (p : Pointers) (room : List ℕ) → length rest < fuel → length room ≡ limit → (n : ℕ)
    → (judged_from fuel i at rest store p room).verdict ≡ yes n → YesFrom n i rest store p (judged_from fuel i at rest store p room)

yes-next : (fuel : ℕ) → Means fuel → (i at : ℕ) (rest store : List ℕ) (p : Pointers) (room : List ℕ) → length rest < suc fuel
    → length room ≡ limit → (n : ℕ) → (next fuel i at rest (pair_at rest store p room)).verdict ≡ yes n
    → YesFrom n i rest store p (next fuel i at rest (pair_at rest store p room))
unfolding next is_yes Means
yes-next fuel means i at rest store p room some l n =
    pair-cases rest store p room (λ t. (next fuel i at rest t).verdict ≡ yes n → YesFrom n i rest store p (next fuel i at rest t))
    (λ e h. yes-end n i at rest store p room e h)
    (λ k m o g.
    let packet = bytes_in_frame k rest in
    let z = shown_run packet store p in
    let a = shown-alike packet store p room l in
    let v = front-within rest k g.packet in
    let nz = ne_eqb (8 + k + m) 0 (λ q. omega arith) in
    rw (nz, ap (λ o. o.store) g.ran ∙ a.store, ap (λ o. o.pointers) g.ran ∙ a.pointers)
    (λ h.
    yes-more n i rest store p room l k m o g _
    (means (1 + i) (at + (8 + k + m)) (drop (8 + k + m) rest) z.store z.pointers o.reply
    (rw length-drop (omega arith))
    (rw g.ran (room-kept packet store p room l))
    n
    h)))
    (λ pair s q r f.
    rw (eq-eqb (good_bytes pair) 0 f.stops)
    (λ h. let y = ap is_yes h in let x = f.faults i in let z : ◌≡◌ {A = ℕ} 0 1 = cc in absurd (omega arith)))

yes_suc : (fuel : ℕ) → Means fuel → Means (suc fuel)
unfolding Means
yes_suc fuel means i at rest store p room some l n = rw next-is (yes-next fuel means i at rest store p room some l n)

yes-from : (fuel : ℕ) → Means fuel
unfolding Means
yes-from zero = λ i at rest store p room some l n h. absurd (omega arith)
yes-from (suc fuel) = yes_suc fuel (yes-from fuel)

-- All that yes means. The recording, taken apart, is packets and the replies that our card gives to them; played with any
-- reply rooms they are accepted, and their replies, store and pointers are those of the recording and of the judge.
pub record Shown (recording : List ℕ) (n : ℕ) (store : List ℕ) (p : Pointers) : Type 0 where
  pub packets : List (List ℕ)
  pub count : n ≡ length packets
  pub recorded : apart recording ≡ frames (shown packets store p)
  pub played : (rooms : ℕ → List ℕ) → ((i : ℕ) → length (rooms i) ≡ limit)
      → play packets rooms store p
      ≡ record {
        accepted = true;
        replies = replies_of (shown packets store p);
        store = (judged recording store p).store;
        pointers = (judged recording store p).pointers;
      }

pub yes-means : (recording store : List ℕ) (p : Pointers) (n : ℕ) → (judged recording store p).verdict ≡ yes n
    → Shown recording n store p
unfolding judged judged_in judged_parts said apart Means
yes-means recording store p n h = go (bad_state store p) refl h
  where
    -- the judge, in either case of refusal 1
    case : Bool → Said
    case b =
        said
        (cond b (stopped (Recording.refused 1 0) 0 (pair_left Pair.End store p (replicate limit 0)))
        (judged_parts recording store p (replicate limit 0)))

    go : (b : Bool) → bad_state store p ≡ b → (case b).verdict ≡ yes n → Shown recording n store p
    go true e h = let z : ◌≡◌ {A = ℕ} 0 1 = cc in absurd (omega arith)
    go false e h =
        let y =
        yes-from (suc (length recording)) 0 0 recording store p (replicate limit 0) (omega arith) (length-replicate {A = ℕ} limit 0) n
        h in
        let s : (play y.packets zero_rooms store p).store ≡ (judged recording store p).store = rw e (sym y.left-store) in
        let q : (play y.packets zero_rooms store p).pointers ≡ (judged recording store p).pointers =
        rw e (sym y.left-pointers) in
        record {
          packets = y.packets;
          count = omega (arith, y.count);
          recorded = y.recorded (length recording) (omega arith);
          played =
              λ rooms l.
              play-alike y.packets rooms zero_rooms store p l zero_rooms_lem
              ∙ (λ i.
              record {
                accepted = y.accepted i;
                replies = play-replies y.packets store p i;
                store = s i;
                pointers = q i;
              });
        }
