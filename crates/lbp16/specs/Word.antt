-- The command word, low bit first: count 7 bits, increment, size 2 bits, space 3 bits, info, address, write.
use Rattle.std.specs.Prelude.{ℕ, ◌+◌, ◌*◌, ◌/◌, ◌%◌, [], ◌∷◌, Bool, true, false, ◌||◌, cond, eqb, ltb, Result, Ok, Err}
use Rattle.lbp16.specs.Answer.{Answer, accepted, refused, refusal}
use Rattle.lbp16.specs.declared.word.Fields.{Fields}
use Rattle.lbp16.specs.declared.Refusal.{Refusal}

unfoldable pub fields_of : ℕ → Fields
fields_of w =
    record {
      write = eqb (w / 32768 % 2) 1;
      address = eqb (w / 16384 % 2) 1;
      info = eqb (w / 8192 % 2) 1;
      space = w / 1024 % 8;
      size = w / 256 % 4;
      increment = eqb (w / 128 % 2) 1;
      count = w % 128;
    }

unfoldable pub bit : Bool → ℕ
bit false = 0
bit true = 1

unfoldable pub word_of : Fields → ℕ
word_of f =
    bit f.write * 32768 + bit f.address * 16384 + bit f.info * 8192
    + f.space * 1024
    + f.size * 256
    + bit f.increment * 128
    + f.count

-- refusal 13
unfoldable pub out_of_range : Fields → Bool
out_of_range f = ltb 7 f.space || ltb 3 f.size || ltb 127 f.count

unfoldable pub written : Fields → Answer
written f = cond (out_of_range f) (refused 13 0) (accepted (word_of f ∷ []))

unfoldable pub listed : Result ℕ Refusal → Answer
listed (Ok w) = accepted (w ∷ [])
listed (Err r) = refusal r
