-- What head_assemble and head_list_text return and leave is what the two ways do.
use Prim.Native.Nat.{ℕ}
use mathlib.Core.Path.{◌≡◌, refl, sym, ap, ◌∙◌}
use mathlib.Core.Logic.{◌≢◌}
use mathlib.Core.List.{List, [], ◌∷◌, ◌++◌}
use mathlib.Core.Bool.{Bool, true, false, cond}
use native.Mathlib.Omega.{arith}
use lib.ListN.{length, drop}
use lib.Dec.{ltb}
use Rattle.lbp16.specs.Answer.{Answer}
use Rattle.cue.specs.Records.{Listed, refused, records, records_of}
use Rattle.cue.proofs.RecordLaws.{refused_record}
use Rattle.cue_text.specs.Assembled.{Left, placed, text_assembled, text_listed, left}
use Rattle.list_text.specs.Written.{text_of, written_to, list_written}
use Rattle.std.specs.Prelude.{Result, Ok, Err}
use Rattle.lbp16.specs.Answer.{rule_number}
use Rattle.lbp16.specs.declared.Refusal.{Refusal}
use Rattle.cue_text.specs.declared.Written.{Written}
use Rattle.cue_text.proofs.RefusalLaws.{of-line_some, OfText, text-refusal}
use Rattle.head.specs.Exports.{number_of, value_of, count_of, numbers_of}
use Rattle.head.specs.CueTextExports.{text_left, of_left}
use Rattle.head.specs.declared.numbers.Numbers.{Numbers}

-- No refusal has the number 0, of a text or of a list, so that a call which returns 0 has answered its bytes.
pub text-some : (text room : List ℕ) (n k : ℕ) → (text_assembled text room).answer ≡ Answer.refused n k → n ≢ 0
text-some text room n k e = go (text-refusal text room n k e)
  where
    go : {n : ℕ} → OfText n → n ≢ 0
    go (OfText.line o) = of-line_some o
    go OfText.room = omega arith

pub list-some : (list room : List ℕ) (n k : ℕ) → (list_written list room).answer ≡ Answer.refused n k → n ≢ 0
unfolding list_written written_to placed
list-some list room n k e = go (records_of list) refl e
  where
    go : (l : Listed) → records_of list ≡ l → (written_to l room).answer ≡ Answer.refused n k → n ≢ 0
    go (refused m i) f e = let q : m ≡ n = cc in omega (arith, (refused_record list m i f).in_table)
    go (records xs) f e = fits (ltb (length room) (length (text_of xs))) e
      where
        small : Left
        small = record { answer = Answer.refused 26 (length (text_of xs)); room = room }

        whole : Left
        whole = record { answer = Answer.accepted (length (text_of xs) ∷ length xs ∷ []); room = text_of xs ++ drop (length (text_of xs)) room }

        fits : (t : Bool) → (cond t small whole).answer ≡ Answer.refused n k → n ≢ 0
        fits true e = let q : 26 ≡ n = cc in omega arith
        fits false e = let z : ◌≡◌ {A = ℕ} 0 1 = cc in absurd (omega arith)

-- what the code returns and leaves, and its promise
module _ (a : Result Written Refusal) (room : List ℕ) (l : Left) (n : Numbers) (e : left a room ≡ l) (g : n ≡ numbers_of (text_listed a)) where
  text-left : text_left n.0 n.1 n.2 room ≡ of_left l
  unfolding of_left numbers_of left
  text-left = rw g (ap of_left e)

  pub text-answered : ((m k : ℕ) → l.answer ≡ Answer.refused m k → m ≢ 0) → (P : ℕ → Type 0)
      → ((b k : ℕ) → text_listed a ≡ Answer.accepted (b ∷ k ∷ []) → P b)
      → (text_left n.0 n.1 n.2 room ≡ of_left l) × (n.0 ≡ 0 → P n.1)
  unfolding left text_listed numbers_of number_of value_of count_of
  text-answered some P h = (text-left, go a e g h)
    where
      go : (a : Result Written Refusal) → left a room ≡ l → n ≡ numbers_of (text_listed a)
          → ((b k : ℕ) → text_listed a ≡ Answer.accepted (b ∷ k ∷ []) → P b) → n.0 ≡ 0 → P n.1
      go (Ok w) e g h z = rw g (h w.bytes w.count refl)
      go (Err r) e g h z =
          absurd (some (rule_number r.rule) r.place (sym (ap (λ (x : Left). x.answer) e)) (sym (ap (λ (m : Numbers). m.0) g) ∙ z))
