-- Laws of what the program writes.
use Prim.Native.Nat.{ℕ, ◌^◌, ◌≤◌, ◌<◌}
use mathlib.Core.Path.{◌≡◌, refl, ap, ◌∙◌}
use mathlib.Core.List.{List, [], ◌∷◌, ◌++◌}
use native.Mathlib.Omega.{arith}
use lib.ListN.{length, drop}
use borrow.Author.Tests.{eq-eqb, ne_eqb, lt-ltb, le-ltb}
use Rattle.std.proofs.Common.{Result, Ok, Err}
use Rattle.lbp16.specs.Answer.{Answer, rule_number}
use Rattle.lbp16.proofs.RuleLaws.{rule_number_range}
use Rattle.lbp16.specs.declared.Refusal.{Refusal}
use Rattle.cue.specs.Records.{Listed, refused, records, records_of}
use Rattle.cue_text.specs.Assembled.{Left, placed, text_listed, left}
use Rattle.list_text.specs.Written.{text_of, written_to, list_written}
use Rattle.cue_text.specs.declared.Written.{Written}
use Rattle.list_text.proofs.WriteLaws.{text-most}
use Rattle.text.specs.Number.{ascii}
use Rattle.text.specs.Room.{filled, put_at, text_left}
use Rattle.text.specs.Line.{refused_line, too_long_line}
use Rattle.text.proofs.RoomLaws.{put_front}
use Rattle.text.proofs.LineLaws.{refused-length}
use Rattle.cuedis_output.specs.Report.{said, said_of, usage_line, most_bytes, room_bytes}

-- what is said, at the front of a room that is otherwise as before
abbrev pub Reported : ℕ → List ℕ → List ℕ → List ℕ → ℕ → Type 0
Reported words list before after n = filled n after ≡ text_left (said words list) before

module _ (words : ℕ) (list room : List ℕ) (size : length room ≡ room_bytes) where
  pub usage_reported : (words ≡ 1 → ⊥) → (after : List ℕ) (n : ℕ) → filled n after ≡ put_at usage_line 0 room → Reported words list room after n
  unfolding said usage_line ascii
  usage_reported h after n p = rw (ne_eqb words 1 h) (p ∙ put_front usage_line room (omega arith))

  module _ (alone : words ≡ 1) where
    pub too_long-reported : most_bytes < length list → (after : List ℕ) (n : ℕ) → filled n after ≡ put_at too_long_line 0 room
        → Reported words list room after n
    unfolding said too_long_line ascii
    too_long-reported h after n p =
        rw (eq-eqb words 1 alone, lt-ltb most_bytes (length list) h) (p ∙ put_front too_long_line room (omega arith))

    -- by the list's records; `a` is the answer, `room'` the room after it
    module _ (few : length list ≤ most_bytes) (a : Result Written Refusal) (room'' : List ℕ) (done : left a room'' ≡ list_written list room) where
      said-is : said words list ≡ said_of (records_of list)
      unfolding said
      said-is = rw (eq-eqb words 1 alone, le-ltb most_bytes (length list) few) refl

      answer : text_listed a ≡ (list_written list room).answer
      unfolding left
      answer = ap (λ (l : Left). l.answer) done

      room-is : room'' ≡ (list_written list room).room
      unfolding left
      room-is = ap (λ (l : Left). l.room) done

      pub text-reported : (q : Written) → a ≡ Ok q → Reported words list room room'' q.bytes
      unfolding list_written written_to placed text_listed said_of text_left
      text-reported q d = rw said-is (go (records_of list) refl (rw d at answer) room-is)
        where
          go : (v : Listed) → records_of list ≡ v → Answer.accepted (q.bytes ∷ q.count ∷ []) ≡ (written_to v room).answer → room'' ≡ (written_to v room).room
              → filled q.bytes room'' ≡ text_left (said_of v) room
          go (refused m j) l e w = let z : ◌≡◌ {A = ℕ} 0 1 = cc in absurd (omega arith)
          go (records xs) l e w =
              let fits : length (text_of xs) ≤ length room = rw size (text-most list xs l) in
              let no = le-ltb (length room) (length (text_of xs)) fits in
              let f : Answer.accepted (q.bytes ∷ q.count ∷ []) ≡ Answer.accepted (length (text_of xs) ∷ length xs ∷ []) = rw no at e in
              let u : room'' ≡ text_of xs ++ drop (length (text_of xs)) room = rw no at w in
              let same : q.bytes ≡ length (text_of xs) = cc in
              rw (u, same) refl

      pub refusal-reported : (r : Refusal) → r.place < 2 ^ 64 → a ≡ Err r → (after : List ℕ) (m : ℕ)
          → filled m after ≡ put_at (refused_line (rule_number r.rule) r.place) 0 room'' → Reported words list room after m
      unfolding list_written written_to placed text_listed said_of
      refusal-reported r far d after m p = rw said-is (go (records_of list) refl (rw d at answer) room-is)
        where
          go : (v : Listed) → records_of list ≡ v → Answer.refused (rule_number r.rule) r.place ≡ (written_to v room).answer → room'' ≡ (written_to v room).room
              → filled m after ≡ text_left (said_of v) room
          go (refused n i) l e w =
              let fits = refused-length (rule_number r.rule) r.place (omega (arith, rule_number_range r.rule)) far in
              let q : rule_number r.rule ≡ n = cc in
              let k : r.place ≡ i = cc in
              rw (← q, ← k) (rw w at p ∙ put_front (refused_line (rule_number r.rule) r.place) room (omega arith))
          go (records xs) l e w =
              let fits : length (text_of xs) ≤ length room = rw size (text-most list xs l) in
              let f : Answer.refused (rule_number r.rule) r.place ≡ Answer.accepted (length (text_of xs) ∷ length xs ∷ []) =
              rw (le-ltb (length room) (length (text_of xs)) fits) at e in
              let z : ◌≡◌ {A = ℕ} 0 1 = cc in
              absurd (omega arith)
