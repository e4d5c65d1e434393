-- Laws of what the program writes.
use Prim.Native.Nat.{ℕ, ◌^◌, ◌≤◌, ◌<◌}
use mathlib.Core.Path.{◌≡◌, refl, sym, ap, ◌∙◌}
use mathlib.Core.List.{List, [], ◌∷◌, ◌++◌}
use native.Mathlib.Omega.{arith}
use lib.ListN.{length, take, drop, replicate, length-replicate, take-append-drop}
use lib.Seq.{take_at}
use borrow.Author.Tests.{lt-ltb, le-ltb}
use Rattle.lbp16.specs.Answer.{Answer, rule_number}
use Rattle.lbp16.proofs.RuleLaws.{rule_number_range}
use Rattle.lbp16.specs.declared.Refusal.{Refusal}
use Rattle.packet.specs.Step.{Step}
use Rattle.cue.specs.Records.{refused, records, records_of}
use Rattle.cue.specs.Compile.{compiled, compiled_to, compile_listed, left, output}
use Rattle.cue.specs.declared.Packed.{Packed}
use Rattle.std.specs.Prelude.{Result, Ok, Err}
use Rattle.cue.proofs.CompileLaws.{accepted-list, answers-alike, outputs-alike, room-beyond, refusal_changes_nothing}
use Rattle.cue.proofs.CompileLaws.{accepted_exactly, output-at_front}
use Rattle.cue.proofs.OutputLaws.{output-bound}
use Rattle.text.specs.Number.{ascii}
use Rattle.text.specs.Room.{filled, put_at, text_left}
use Rattle.text.specs.Line.{refused_line, too_long_line}
use Rattle.text.proofs.RoomLaws.{put_front}
use Rattle.text.proofs.LineLaws.{refused-length}
use Rattle.cuec_output.specs.Report.{said, bytes_of_compiled, bytes_of_answer, most_bytes, room_bytes}

pub said-too_long : (list : List ℕ) → most_bytes < length list → said list ≡ too_long_line
unfolding said
said-too_long list h = rw (lt-ltb most_bytes (length list) h) refl

pub said-compiled : (list : List ℕ) → length list ≤ most_bytes
    → said list ≡ bytes_of_compiled (compiled list (replicate room_bytes 0))
unfolding said
said-compiled list h = rw (le-ltb most_bytes (length list) h) refl

-- what is said, at the front of a room that is otherwise as before
abbrev pub Reported : List ℕ → List ℕ → List ℕ → ℕ → Type 0
Reported list before after n = filled n after ≡ text_left (said list) before

front-said : (list before after : List ℕ) (n : ℕ) → n ≡ length (said list) → take n after ≡ said list
    → drop n after ≡ drop n before → Reported list before after n
unfolding text_left
front-said list before after n count front beyond =
    let whole : after ≡ said list ++ drop n before = sym (take-append-drop n after) ∙ rw (front, beyond) refl in
    rw (whole, count) refl

-- the line that is said for a list that is too long
pub too_long-reported : (list room after : List ℕ) (n : ℕ) → most_bytes < length list → length room ≡ room_bytes
    → filled n after ≡ put_at too_long_line 0 room → Reported list room after n
unfolding too_long_line ascii
too_long-reported list room after n h size p = rw (said-too_long list h) (p ∙ put_front too_long_line room (omega arith))

-- What is said by the compiler's answer in any room of that size: its former content plays no part.
module _ (list room : List ℕ) (few : length list ≤ most_bytes) (size : length room ≡ room_bytes) where
  zeros : List ℕ
  zeros = replicate room_bytes 0

  alike : length room ≡ length zeros
  unfolding zeros
  alike = size ∙ sym (length-replicate {A = ℕ} room_bytes 0)

  pub said-refused : (n k : ℕ) → (compiled list room).answer ≡ Answer.refused n k → said list ≡ refused_line n k
  unfolding bytes_of_compiled bytes_of_answer zeros
  said-refused n k e = said-compiled list few ∙ rw (sym (answers-alike list room zeros alike) ∙ e) refl

  pub said-accepted : (b n : ℕ) → (compiled list room).answer ≡ Answer.accepted (b ∷ n ∷ [])
      → said list ≡ take b (compiled list room).room
  unfolding bytes_of_compiled bytes_of_answer zeros
  said-accepted b n e =
      said-compiled list few ∙ rw (sym (answers-alike list room zeros alike) ∙ e)
      (sym (outputs-alike list room zeros b n alike e))

  -- as the code comes to it: `a` is the compiler's answer, `room'` the room after it
  module _ (a : Result Packed Refusal) (room'' : List ℕ) (done : left a room'' ≡ compiled list room) where
    e : compile_listed a ≡ (compiled list room).answer
    unfolding left
    e = ap (λ c. c.answer) done

    w : room'' ≡ (compiled list room).room
    unfolding left
    w = ap (λ c. c.room) done

    pub output-reported : (p : Packed) → a ≡ Ok p → Reported list room room'' p.bytes
    unfolding compile_listed
    output-reported p d =
        let b = p.bytes in
        let n = p.packets in
        let f : (compiled list room).answer ≡ Answer.accepted (b ∷ n ∷ []) = sym e ∙ rw d refl in
        let k = accepted-list list room _ f in
        let same = k.same in
        let q : length (output k.xs) ≡ b = cc in
        let s = said-accepted b n f in
        front-said list room room'' b (rw (s, output-at_front list room b n f k.xs k.list-records) (sym q))
        (rw w (sym s))
        (rw w (room-beyond list room b n f))

    pub refusal-reported : (r : Refusal) (number : ℕ) (after : List ℕ) (m : ℕ) → number ≡ rule_number r.rule → r.place < 2 ^ 64
        → a ≡ Err r → filled m after ≡ put_at (refused_line number r.place) 0 room'' → Reported list room after m
    unfolding compile_listed
    refusal-reported r number after m same-number far d p =
        let f : (compiled list room).answer ≡ Answer.refused (rule_number r.rule) r.place = sym e ∙ rw d refl in
        let same : room'' ≡ room = w ∙ refusal_changes_nothing list room _ _ f in
        let range = rule_number_range r.rule in
        let fits = refused-length (rule_number r.rule) r.place (omega (arith, range.1)) far in
        rw (said-refused _ _ f) (rw (same, same-number) at p ∙ put_front (refused_line (rule_number r.rule) r.place) room (omega arith))

-- What is said by the list alone. A list is one or the other, and a bad record's number is 21 to 24, so 26 is never said.
module _ (list : List ℕ) (few : length list ≤ most_bytes) where
  pub said-bad_record : (n k : ℕ) → records_of list ≡ refused n k → said list ≡ refused_line n k
  unfolding compiled compiled_to bytes_of_compiled bytes_of_answer
  said-bad_record n k e = said-compiled list few ∙ rw e refl

  pub said-output : (xs : List Step) → records_of list ≡ records xs → said list ≡ output xs
  unfolding bytes_of_compiled bytes_of_answer
  said-output xs e =
      let zeros = replicate {A = ℕ} room_bytes 0 in
      let size = length-replicate {A = ℕ} room_bytes 0 in
      let fits : length (output xs) ≤ length zeros = rw size (omega (arith, output-bound list xs e)) in
      said-compiled list few ∙ rw (accepted_exactly list zeros xs e fits) (take_at (output xs) _ _ refl)
