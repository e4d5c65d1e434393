-- Laws of what is said of a capture.
use Prim.Native.Nat.{ℕ, ◌^◌, min, ◌≤◌, ◌<◌}
use mathlib.Core.Path.{◌≡◌, refl, ap}
use mathlib.Core.List.{List, [], ◌∷◌, ◌++◌}
use mathlib.Core.Bool.{Bool, true, false, ◌||◌, cond}
use native.Mathlib.Omega.{arith}
use lib.ListN.{length, take, drop, replicate, length-append}
use lib.Seq.{take-append_seam}
use lib.Dec.{eqb, ltb}
use borrow.Author.Tests.{le-ltb}
use Rattle.lbp16.specs.Answer.{Answer}
use Rattle.lbp16.specs.declared.Refusal.{Refusal}
use Rattle.lbp16.specs.declared.pointer.Pointers.{Pointers}
use Rattle.packet.specs.Command.{limit}
use Rattle.capture.specs.File.{file_of}
use Rattle.capture.specs.Capture.{Heard, Captured, heard, recording_of, frames_of, turned_away, written, captured, capture_listed, left}
use Rattle.std.specs.Prelude.{Result, Ok, Err}
use Rattle.lbp16.specs.Answer.{rule_number}
use Rattle.capture.specs.declared.Recorded.{Recorded}
use Rattle.capture.proofs.TurnLaws.{frames-length}
use Rattle.text.specs.Number.{ascii}
use Rattle.text.specs.Line.{numbered, too_long_line}
use Rattle.text.specs.Room.{filled, put_at}
use Rattle.text.proofs.LineLaws.{numbered-length, cond-length}
use Rattle.showcheck_output.specs.Findings.{most_bytes, judged_text}
use Rattle.showcheck_output.specs.Input.{most_packets, frame_sentence, unread_text, heard_text, capture_text}
use Rattle.showcheck_output.specs.Inside.{answer_text, read_text}
use Rattle.showcheck_output.proofs.AroundLaws.{most}

module _ (store : List ℕ) (p : Pointers) (room frames : List ℕ) (roomed : length room ≡ most_bytes) (counted : length frames ≡ most_packets) where
  written_is : (h : Heard) → read_text (written h room frames) store p ≡ heard_text h store p
  unfolding read_text answer_text written heard_text unread_text
  written_is (Heard.refused n k) = refl
  written_is (Heard.exchanges xs) = rw (roomed, counted) (go (ltb most_bytes (length (recording_of xs))) (ltb most_packets (length xs)))
    where
      both : Captured
      both =
          record {
            answer = Answer.accepted (length (recording_of xs) ∷ length xs ∷ []);
            room = recording_of xs ++ drop (length (recording_of xs)) room;
            frames = frames_of xs ++ drop (length (frames_of xs)) frames;
          }

      go : (a b : Bool)
          → read_text
          (cond a (turned_away 26 (length (recording_of xs)) room frames) (cond b (turned_away 27 (length xs) room frames) both))
          store p
          ≡ cond (a || b) too_long_line (judged_text (recording_of xs) (frames_of xs) store p (replicate limit 0))
      go true b = refl
      go false true = refl
      go false false =
          let r = take-append_seam (recording_of xs) (drop (length (recording_of xs)) room) in
          rw (r, ← frames-length xs, take-append_seam (frames_of xs) (drop (length (frames_of xs)) frames)) refl

  read_is : (capture : List ℕ) → length capture ≤ most_bytes
      → read_text (captured capture room frames) store p ≡ capture_text capture store p
  unfolding capture_text captured read_text answer_text
  read_is capture few = rw (le-ltb most_bytes (length capture) few) (go (file_of capture).good)
    where
      go : (good : Bool)
          → read_text (cond good (written (heard (file_of capture) (drop 24 capture)) room frames) (turned_away 91 0 room frames)) store p
          ≡ cond good (heard_text (heard (file_of capture) (drop 24 capture)) store p) (unread_text 91 0)
      go true = written_is (heard (file_of capture) (drop 24 capture))
      go false = refl

  pub rooms-put : (capture : List ℕ) → length capture ≤ most_bytes → (old : List ℕ) {n : ℕ} {new : List ℕ}
      → (filled n new ≡ put_at (read_text (captured capture room frames) store p) 0 old)
      × (length (read_text (captured capture room frames) store p) ≤ 24576)
      → (filled n new ≡ put_at (capture_text capture store p) 0 old) × (length (capture_text capture store p) ≤ 24576)
  rooms-put capture few old h = let e = read_is capture few in (rw e at h.0, rw e at h.1)

-- what is put of what reading answers and leaves
module _ (capture room frames : List ℕ) {a : Result Recorded Refusal} {room₁ frames₁ : List ℕ}
    (e : left a room₁ frames₁ ≡ captured capture room frames) (store : List ℕ) (p : Pointers) where
  pub read-put : (x : Recorded) (n m : ℕ) → a ≡ Ok x → n ≡ min x.bytes (length room₁) → m ≡ min x.packets (length frames₁)
      → judged_text (take n room₁) (take m frames₁) store p (replicate limit 0) ≡ read_text (captured capture room frames) store p
  unfolding read_text answer_text capture_listed
  read-put r n m q x y =
      let f : left (Ok r) room₁ frames₁ ≡ captured capture room frames = rw q at e in
      rw (← most room₁ r.bytes n x, ← most frames₁ r.packets m y) (ap (λ (c : Captured). read_text c store p) f)

  pub unread_put : (r : Refusal) → a ≡ Err r
      → unread_text (rule_number r.rule) r.place ≡ read_text (captured capture room frames) store p
  unfolding read_text answer_text capture_listed
  unread_put r q =
      let f : left (Err r) room₁ frames₁ ≡ captured capture room frames = rw q at e in
      ap (λ (c : Captured). read_text c store p) f

-- the sentences of refusals
sentence-length : (n : ℕ) → length (frame_sentence n) ≤ 120
unfolding frame_sentence ascii
sentence-length n =
    cond-length 120 (eqb n 92) (ascii "fewer bytes than the frame's header has, or than it says were captured\n")
    (cond (eqb n 93)
    (ascii "a datagram of the card is not whole: more fragments follow, its lengths differ, or bytes were not captured\n")
    (ascii "a second reply to a request\n"))
    (omega arith)
    (cond-length 120 (eqb n 93)
    (ascii "a datagram of the card is not whole: more fragments follow, its lengths differ, or bytes were not captured\n")
    (ascii "a second reply to a request\n") (omega arith) (omega arith))

pub refusal-length : (n k : ℕ) → n < 2 ^ 64 → k < 2 ^ 64
    → length (numbered (ascii "refused ") n ++ numbered (ascii " at frame ") k ++ ascii ": " ++ frame_sentence n) ≤ 24576
unfolding ascii
refusal-length n k small few =
    let a = numbered-length (ascii "refused ") n (omega arith) in
    let b = numbered-length (ascii " at frame ") k (omega arith) in
    let c = sentence-length n in
    simp length-append (omega arith)
