-- Laws of a capture's answer and of what is left.
use Prim.Native.Nat.{ℕ, ◌≤◌, ◌<◌}
use mathlib.Core.Path.{◌≡◌, refl, sym, ap, ◌∙◌}
use mathlib.Core.List.{List, [], ◌∷◌, ◌++◌}
use mathlib.Core.Bool.{Bool, true, false, cond}
use native.Mathlib.Omega.{arith}
use lib.ListN.{length, drop}
use lib.Dec.{ltb}
use borrow.Author.Tests.{leb-true, lt-ltb, le-ltb}
use Rattle.lbp16.proofs.BoolLaws.{and_true}
use Rattle.lbp16.specs.Answer.{Answer}
use Rattle.capture.specs.File.{file_of}
use Rattle.capture.specs.Capture.{Exchange, Heard, refused, exchanges, heard, recording_of, frames_of, Captured, turned_away}
use Rattle.capture.specs.Capture.{written, captured}
use Rattle.capture.specs.Inside.{said_of, front_over, room_after, numbers_after, Ready}
use Rattle.capture.specs.File.{File}
use Rattle.capture.proofs.HeardLaws.{refused-numbers}

-- a walk that does not write leaves a room as it was
pub room_unwritten : (h : Heard) (old : List ℕ) → room_after false h old ≡ old
unfolding room_after front_over
room_unwritten (refused n k) old = refl
room_unwritten (exchanges xs) old = refl

pub numbers_unwritten : (h : Heard) (old : List ℕ) → numbers_after false h old ≡ old
unfolding numbers_after front_over
numbers_unwritten (refused n k) old = refl
numbers_unwritten (exchanges xs) old = refl

-- a file that is read has its header
pub header-there : (capture : List ℕ) (f : File) → f ≡ file_of capture → f.good ≡ true → 24 ≤ length capture
unfolding file_of
header-there capture f e h =
    let (front, link) = and_true _ _ (ap (λ (x : File). x.good) (sym e) ∙ h) in
    leb-true 24 (length capture) (and_true _ _ front).0

-- recording and frames at the rooms' fronts
abbrev pub whole : List Exchange → List ℕ → List ℕ → Captured
whole xs room frames =
    record {
      answer = Answer.accepted (length (recording_of xs) ∷ length xs ∷ []);
      room = recording_of xs ++ drop (length (recording_of xs)) room;
      frames = frames_of xs ++ drop (length (frames_of xs)) frames;
    }

module _ (xs : List Exchange) (room frames : List ℕ) where
  pub small-room : length room < length (recording_of xs)
      → written (exchanges xs) room frames ≡ turned_away 26 (length (recording_of xs)) room frames
  unfolding written
  small-room h = rw (lt-ltb _ _ h) refl

  pub small-frames : length (recording_of xs) ≤ length room → length frames < length xs
      → written (exchanges xs) room frames ≡ turned_away 27 (length xs) room frames
  unfolding written
  small-frames h k = rw (le-ltb _ _ h, lt-ltb _ _ k) refl

  pub both-fit : length (recording_of xs) ≤ length room → length xs ≤ length frames → written (exchanges xs) room frames ≡ whole xs room frames
  unfolding written
  both-fit h k = rw (le-ltb _ _ h, le-ltb _ _ k) refl

  pub whole_is : (bytes packets : ℕ) (room₁ frames₁ : List ℕ) → bytes ≡ length (recording_of xs) → packets ≡ length xs
      → room₁ ≡ recording_of xs ++ drop (length (recording_of xs)) room → frames₁ ≡ frames_of xs ++ drop (length (frames_of xs)) frames
      → whole xs room frames ≡ record { answer = Answer.accepted (bytes ∷ packets ∷ []); room = room₁; frames = frames₁ }
  whole_is bytes packets room₁ frames₁ a b c d = rw (a, b, c, d) refl

-- as the code finds it
module _ (capture room frames : List ℕ) (f : File) (e : f ≡ file_of capture) where
  pub bad-file : f.good ≡ false → captured capture room frames ≡ turned_away 91 0 room frames
  unfolding captured
  bad-file h = rw (← e, h) refl

  module _ (good : f.good ≡ true) where
    good-file : captured capture room frames ≡ written (heard f (drop 24 capture)) room frames
    unfolding captured
    good-file = rw (← e, good) refl

    pub bad-frame : (n k : ℕ) → Answer.refused n k ≡ said_of (heard f (drop 24 capture)) → captured capture room frames ≡ turned_away n k room frames
    unfolding said_of written
    bad-frame n k s = good-file ∙ go (heard f (drop 24 capture)) s
      where
        go : (x : Heard) → Answer.refused n k ≡ said_of x → written x room frames ≡ turned_away n k room frames
        go (refused m j) q = let a : m ≡ n = cc in let b : j ≡ k = cc in rw (a, b) refl
        go (exchanges xs) q = let z : ◌≡◌ {A = ℕ} 0 1 = cc in absurd (omega arith)

    -- no frame is refused
    module _ (bytes packets : ℕ) (s : Answer.accepted (bytes ∷ packets ∷ []) ≡ said_of (heard f (drop 24 capture))) where
      pub record Found : Type 0 where
        pub xs : List Exchange
        pub same : heard f (drop 24 capture) ≡ exchanges xs
        pub bytes_lem : bytes ≡ length (recording_of xs)
        pub packets_lem : packets ≡ length xs

      pub found : Found
      unfolding said_of
      found = go (heard f (drop 24 capture)) refl s
        where
          go : (x : Heard) → heard f (drop 24 capture) ≡ x → Answer.accepted (bytes ∷ packets ∷ []) ≡ said_of x → Found
          go (refused n k) q t = let z : ◌≡◌ {A = ℕ} 0 1 = cc in absurd (omega arith)
          go (exchanges xs) q t = record { xs = xs; same = q; bytes_lem = cc; packets_lem = cc }

      as_found : captured capture room frames ≡ written (exchanges found.xs) room frames
      as_found = good-file ∙ ap (λ (x : Heard). written x room frames) found.same

      pub too_small : length room < bytes → captured capture room frames ≡ turned_away 26 bytes room frames
      too_small k =
          as_found
          ∙ small-room found.xs room frames (omega (arith, found.bytes_lem))
          ∙ ap (λ (n : ℕ). turned_away 26 n room frames) (sym found.bytes_lem)

      module _ (fits : bytes ≤ length room) where
        pub too_few : length frames < packets → captured capture room frames ≡ turned_away 27 packets room frames
        too_few k =
            as_found
            ∙ small-frames found.xs room frames (omega (arith, found.bytes_lem)) (omega (arith, found.packets_lem))
            ∙ ap (λ (n : ℕ). turned_away 27 n room frames) (sym found.packets_lem)

        module _ (enough : packets ≤ length frames) where
          pub ready : Ready (heard f (drop 24 capture)) room frames
          ready =
              record {
                xs = found.xs;
                same = found.same;
                bytes = omega (arith, found.bytes_lem);
                packets = omega (arith, found.packets_lem);
              }

          pub all-written : (room₁ frames₁ : List ℕ) → room₁ ≡ room_after true (heard f (drop 24 capture)) room
              → frames₁ ≡ numbers_after true (heard f (drop 24 capture)) frames
              → captured capture room frames
              ≡ record { answer = Answer.accepted (bytes ∷ packets ∷ []); room = room₁; frames = frames₁ }
          unfolding room_after numbers_after front_over
          all-written room₁ frames₁ p q =
              as_found
              ∙ both-fit found.xs room frames (omega (arith, found.bytes_lem)) (omega (arith, found.packets_lem))
              ∙ whole_is found.xs room frames bytes packets room₁ frames₁ found.bytes_lem found.packets_lem
              (p ∙ ap (λ (x : Heard). room_after true x room) found.same)
              (q ∙ ap (λ (x : Heard). numbers_after true x frames) found.same)

-- and leaves it, where the first walk has left both rooms as they were
module _ (capture room frames : List ℕ) (f : File) (e : f ≡ file_of capture) (good : f.good ≡ true) (rest : List ℕ) (r : rest ≡ drop 24 capture)
    (a : Answer) (room₁ frames₁ : List ℕ)
    (said : (a ≡ said_of (heard f rest))
    × ((room₁ ≡ room_after false (heard f rest) room) × (frames₁ ≡ numbers_after false (heard f rest) frames)))
  where
    room-same : room₁ ≡ room
    room-same = said.1.0 ∙ room_unwritten (heard f rest) room

    frames-same : frames₁ ≡ frames
    frames-same = said.1.1 ∙ numbers_unwritten (heard f rest) frames

    heard-same : heard f rest ≡ heard f (drop 24 capture)
    heard-same = ap (heard f) r

    said_same : a ≡ said_of (heard f (drop 24 capture))
    said_same = said.0 ∙ ap said_of heard-same

    away : (n k : ℕ) → captured capture room frames ≡ turned_away n k room frames → turned_away n k room₁ frames₁ ≡ captured capture room frames
    away n k q = rw (room-same, frames-same) (sym q)

    pub left-frame : (n k : ℕ) → a ≡ Answer.refused n k → turned_away n k room₁ frames₁ ≡ captured capture room frames
    left-frame n k h = away n k (bad-frame capture room frames f e good n k (sym h ∙ said_same))

    module _ (bytes packets : ℕ) (h : a ≡ Answer.accepted (bytes ∷ packets ∷ [])) where
      counted : Answer.accepted (bytes ∷ packets ∷ []) ≡ said_of (heard f (drop 24 capture))
      counted = sym h ∙ said_same

      pub left-small : length room₁ < bytes → turned_away 26 bytes room₁ frames₁ ≡ captured capture room frames
      left-small k = away 26 bytes (too_small capture room frames f e good bytes packets counted (omega (arith, ap length room-same)))

      module _ (fits : bytes ≤ length room₁) where
        fits_too : bytes ≤ length room
        fits_too = omega (arith, ap length room-same)

        pub left-few : length frames₁ < packets → turned_away 27 packets room₁ frames₁ ≡ captured capture room frames
        left-few k =
            away 27 packets (too_few capture room frames f e good bytes packets counted fits_too (omega (arith, ap length frames-same)))

        module _ (enough : packets ≤ length frames₁) where
          enough_too : packets ≤ length frames
          enough_too = omega (arith, ap length frames-same)

          pub left-ready : Ready (heard f rest) room₁ frames₁
          left-ready =
              let q = ready capture room frames f e good bytes packets counted fits_too enough_too in
              record {
                xs = q.xs;
                same = heard-same ∙ q.same;
                bytes = omega (arith, q.bytes, ap length room-same);
                packets = omega (arith, q.packets, ap length frames-same);
              }

          pub left-all : (b : Answer) → b ≡ said_of (heard f rest) → (room₂ frames₂ : List ℕ) → room₂ ≡ room_after true (heard f rest) room₁
              → frames₂ ≡ numbers_after true (heard f rest) frames₁
              → record { answer = b; room = room₂; frames = frames₂ } ≡ captured capture room frames
          left-all b o room₂ frames₂ p q =
              rw (o ∙ sym said.0 ∙ h) (sym
              (all-written capture room frames f e good bytes packets counted fits_too enough_too room₂ frames₂
              (p ∙ ap (room_after true (heard f rest)) room-same ∙ ap (λ (x : Heard). room_after true x room) heard-same)
              (q ∙ ap (numbers_after true (heard f rest)) frames-same ∙ ap (λ (x : Heard). numbers_after true x frames) heard-same)))

-- the numbers with which a capture is refused
pub data Numbered (n : ℕ) : Type 0 where
  room : 26 ≤ n → n ≤ 27 → Numbered n
  capture : 91 ≤ n → n ≤ 94 → Numbered n

frame-numbered : (f : File) (rest : List ℕ) (n k : ℕ) → heard f rest ≡ refused n k → Numbered n
unfolding heard
frame-numbered f rest n k e =
    let w = refused-numbers f _ _ _ _ n k e in
    Numbered.capture (omega (arith, w.0)) w.1

-- What holds of refusals and of rooms that suffice holds of every capture.
module _ (capture room frames : List ℕ) (P : Captured → Type 0) (away : (n k : ℕ) → Numbered n → P (turned_away n k room frames))
    (accept : (xs : List Exchange) → P (whole xs room frames)) where
  written-cases : (h : Heard) → ((n k : ℕ) → h ≡ refused n k → Numbered n) → P (written h room frames)
  unfolding written
  written-cases (refused n k) e = away n k (e n k refl)
  written-cases (exchanges xs) e = go (ltb (length room) (length (recording_of xs))) (ltb (length frames) (length xs))
    where
      go : (t u : Bool)
          → P (cond t (turned_away 26 (length (recording_of xs)) room frames) (cond u (turned_away 27 (length xs) room frames) (whole xs room frames)))
      go true u = away 26 (length (recording_of xs)) (Numbered.room (omega arith) (omega arith))
      go false true = away 27 (length xs) (Numbered.room (omega arith) (omega arith))
      go false false = accept xs

  pub capture-cases : P (captured capture room frames)
  unfolding captured
  capture-cases = go (file_of capture).good
    where
      go : (t : Bool) → P (cond t (written (heard (file_of capture) (drop 24 capture)) room frames) (turned_away 91 0 room frames))
      go true = written-cases (heard (file_of capture) (drop 24 capture)) (frame-numbered (file_of capture) (drop 24 capture))
      go false = away 91 0 (Numbered.capture (omega arith) (omega arith))

module _ (capture room frames : List ℕ) (n k : ℕ) where
  -- A refused capture leaves both rooms as they were.
  pub refusal_changes_nothing : (captured capture room frames).answer ≡ Answer.refused n k
      → ((captured capture room frames).room ≡ room) × ((captured capture room frames).frames ≡ frames)
  refusal_changes_nothing =
      capture-cases capture room frames (λ s. s.answer ≡ Answer.refused n k → (s.room ≡ room) × (s.frames ≡ frames))
      (λ m j l e. (refl, refl)) (λ xs e. let z : ◌≡◌ {A = ℕ} 0 1 = cc in absurd (omega arith))

  -- Every refusal's number is 26, 27 or one of 91 to 94.
  pub refusals-listed : (captured capture room frames).answer ≡ Answer.refused n k → Numbered n
  refusals-listed =
      capture-cases capture room frames (λ s. s.answer ≡ Answer.refused n k → Numbered n)
      (λ m j l e. let q : m ≡ n = cc in rw (← q) l) (λ xs e. let z : ◌≡◌ {A = ℕ} 0 1 = cc in absurd (omega arith))
