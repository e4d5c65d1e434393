-- Laws of what the program writes.
use Prim.Native.Nat.{ℕ, ◌^◌, ◌≤◌, ◌<◌}
use mathlib.Core.Path.{◌≡◌, refl, ap, ◌∙◌}
use mathlib.Core.List.{List, [], ◌∷◌, ◌++◌}
use native.Mathlib.Omega.{arith}
use lib.ListN.{length, drop}
use borrow.Author.Tests.{eq-eqb, ne_eqb, lt-ltb, le-ltb}
use Rattle.std.proofs.Common.{Result, Ok, Err}
use Rattle.lbp16.specs.Answer.{Answer, rule_number}
use Rattle.lbp16.specs.declared.Refusal.{Refusal}
use Rattle.cue_text.specs.Assembled.{Assembled, bad, cues, assembled, list_of, Left, placed, assembled_to, text_assembled, text_listed, left}
use Rattle.cue_text.specs.declared.Written.{Written}
use Rattle.cue_text.proofs.ShowLaws.{list-most}
use Rattle.text.specs.Number.{ascii}
use Rattle.text.specs.Room.{filled, put_at, text_left}
use Rattle.text.specs.Line.{too_long_line}
use Rattle.text.proofs.RoomLaws.{put_front}
use Rattle.cueasm_output.specs.Sentence.{sentence}
use Rattle.cueasm_output.specs.Report.{said, said_of, usage_line, most_bytes, room_bytes}
use Rattle.cueasm_output.proofs.SentenceLaws.{sentence-most}

-- what is said, at the front of a room that is otherwise as before
abbrev pub Reported : ℕ → List ℕ → List ℕ → List ℕ → ℕ → Type 0
Reported words text before after n = filled n after ≡ text_left (said words text) before

module _ (words : ℕ) (text room : List ℕ) (size : length room ≡ room_bytes) where
  pub usage_reported : (words ≡ 1 → ⊥) → (after : List ℕ) (n : ℕ) → filled n after ≡ put_at usage_line 0 room → Reported words text room after n
  unfolding said usage_line ascii
  usage_reported h after n p = rw (ne_eqb words 1 h) (p ∙ put_front usage_line room (omega arith))

  module _ (alone : words ≡ 1) where
    pub too_long-reported : most_bytes < length text → (after : List ℕ) (n : ℕ) → filled n after ≡ put_at too_long_line 0 room
        → Reported words text room after n
    unfolding said too_long_line ascii
    too_long-reported h after n p =
        rw (eq-eqb words 1 alone, lt-ltb most_bytes (length text) h) (p ∙ put_front too_long_line room (omega arith))

    -- by what the text is; `a` is the answer, `room'` the room after it
    module _ (few : length text ≤ most_bytes) (a : Result Written Refusal) (room'' : List ℕ) (done : left a room'' ≡ text_assembled text room) where
      said-is : said words text ≡ said_of text (assembled text)
      unfolding said
      said-is = rw (eq-eqb words 1 alone, le-ltb most_bytes (length text) few) refl

      answer : text_listed a ≡ (text_assembled text room).answer
      unfolding left
      answer = ap (λ (l : Left). l.answer) done

      room-is : room'' ≡ (text_assembled text room).room
      unfolding left
      room-is = ap (λ (l : Left). l.room) done

      pub list-reported : (q : Written) → a ≡ Ok q → Reported words text room room'' q.bytes
      unfolding text_assembled assembled_to placed text_listed said_of text_left
      list-reported q d = rw said-is (go (assembled text) refl (rw d at answer) room-is)
        where
          go : (v : Assembled) → assembled text ≡ v → Answer.accepted (q.bytes ∷ q.count ∷ []) ≡ (assembled_to v room).answer → room'' ≡ (assembled_to v room).room
              → filled q.bytes room'' ≡ text_left (said_of text v) room
          go (bad m j) l e w = let z : ◌≡◌ {A = ℕ} 0 1 = cc in absurd (omega arith)
          go (cues cs) l e w =
              let fits : length (list_of cs) ≤ length room = rw size (list-most text cs l) in
              let no = le-ltb (length room) (length (list_of cs)) fits in
              let f : Answer.accepted (q.bytes ∷ q.count ∷ []) ≡ Answer.accepted (length (list_of cs) ∷ length cs ∷ []) = rw no at e in
              let u : room'' ≡ list_of cs ++ drop (length (list_of cs)) room = rw no at w in
              let same : q.bytes ≡ length (list_of cs) = cc in
              rw (u, same) refl

      pub sentence-reported : (r : Refusal) → r.place < 2 ^ 64 → a ≡ Err r → (after : List ℕ) (m : ℕ)
          → filled m after ≡ put_at (sentence (rule_number r.rule) r.place text) 0 room'' → Reported words text room after m
      unfolding text_assembled assembled_to placed text_listed said_of
      sentence-reported r far d after m p = rw said-is (go (assembled text) refl (rw d at answer) room-is)
        where
          go : (v : Assembled) → assembled text ≡ v → Answer.refused (rule_number r.rule) r.place ≡ (assembled_to v room).answer
              → room'' ≡ (assembled_to v room).room → filled m after ≡ text_left (said_of text v) room
          go (bad n i) l e w =
              let fits = sentence-most (rule_number r.rule) r.place text far in
              let q : rule_number r.rule ≡ n = cc in
              let k : r.place ≡ i = cc in
              rw (← q, ← k) (rw w at p ∙ put_front (sentence (rule_number r.rule) r.place text) room (omega arith))
          go (cues cs) l e w =
              let fits : length (list_of cs) ≤ length room = rw size (list-most text cs l) in
              let f : Answer.refused (rule_number r.rule) r.place ≡ Answer.accepted (length (list_of cs) ∷ length cs ∷ []) =
              rw (le-ltb (length room) (length (list_of cs)) fits) at e in
              let z : ◌≡◌ {A = ℕ} 0 1 = cc in
              absurd (omega arith)
