-- Fields and words are inverse both ways.
use Prim.Native.Nat.{ℕ, ◌+◌, ◌*◌, ◌/◌, ◌%◌, ◌≤◌, ◌<◌}
use mathlib.Core.Path.{◌≡◌, refl, ap, ◌∙◌}
use mathlib.Core.Bool.{Bool, true, false, ◌||◌}
use native.Mathlib.Omega.{arith}
use lib.Dec.{eqb, ltb}
use borrow.Author.Tests.{ltb-false, eqb-true, eqb-false}
use Rattle.lbp16.proofs.BoolLaws.{or_false}
use Rattle.lbp16.specs.declared.word.Fields.{Fields}
use Rattle.lbp16.specs.Word.{bit, fields_of, word_of, out_of_range}

pub record InRange (f : Fields) : Type 0 where
  pub space : f.space ≤ 7
  pub size : f.size ≤ 3
  pub count : f.count ≤ 127

pub in_range_lem : (f : Fields) → out_of_range f ≡ false → InRange f
unfolding out_of_range
in_range_lem f h =
    let o = or_false (ltb 7 f.space || ltb 3 f.size) (ltb 127 f.count) h in
    let p = or_false (ltb 7 f.space) (ltb 3 f.size) o.0 in
    record { space = ltb-false _ _ p.0; size = ltb-false _ _ p.1; count = ltb-false _ _ o.1 }

pub bit_le : (b : Bool) → bit b ≤ 1
unfolding bit
bit_le false = omega arith
bit_le true = omega arith

-- a bit that is read is the bit that was written
pub bit-read : (b : Bool) → eqb (bit b) 1 ≡ b
unfolding bit
bit-read false = refl
bit-read true = refl

pub bit-written : (n : ℕ) → n ≤ 1 → bit (eqb n 1) ≡ n
unfolding bit
bit-written n h = go (eqb n 1) refl
  where
    go : (b : Bool) → eqb n 1 ≡ b → bit b ≡ n
    go true e = let q : n ≡ 1 = eqb-true n 1 e in omega arith
    go false e = let q = eqb-false n 1 e in omega arith

-- a number put together again from its digits
joined : (w a b c d e f g q₁ q₂ q₃ q₄ q₅ : ℕ)
    → w ≡ q₁ * 128 + g → q₁ ≡ q₂ * 2 + f → q₂ ≡ q₃ * 4 + e → q₃ ≡ q₄ * 8 + d → q₄ ≡ q₅ * 2 + c → q₅ ≡ a * 2 + b
    → a * 32768 + b * 16384 + c * 8192 + d * 1024 + e * 256 + f * 128 + g ≡ w
joined w a b c d e f g q₁ q₂ q₃ q₄ q₅ h₁ h₂ h₃ h₄ h₅ h₆ = omega arith

pub word-of_fields : (w : ℕ) → w < 65536 → word_of (fields_of w) ≡ w
unfolding word_of fields_of
word-of_fields w h =
    rw (
      bit-written (w / 32768 % 2) (omega arith),
      bit-written (w / 16384 % 2) (omega arith),
      bit-written (w / 8192 % 2) (omega arith),
      bit-written (w / 128 % 2) (omega arith),
    )
    (joined w _ _ _ _ _ _ _ (w / 128) (w / 256) (w / 1024) (w / 8192) (w / 16384) (omega arith) (omega arith) (omega arith)
    (omega arith)
    (omega arith)
    (omega arith))

module _ (f : Fields) (r : InRange f) where
  pub word_below : word_of f < 65536
  unfolding word_of
  word_below =
      let a = bit_le f.write in
      let b = bit_le f.address in
      let c = bit_le f.info in
      let d = bit_le f.increment in
      omega arith

  pub fields-of_word : fields_of (word_of f) ≡ f
  unfolding word_of fields_of
  fields-of_word =
      let a = bit_le f.write in
      let b = bit_le f.address in
      let c = bit_le f.info in
      let d = bit_le f.increment in
      let w = word_of f in
      let write : w / 32768 % 2 ≡ bit f.write = omega arith in
      let address : w / 16384 % 2 ≡ bit f.address = omega arith in
      let info : w / 8192 % 2 ≡ bit f.info = omega arith in
      let space : w / 1024 % 8 ≡ f.space = omega arith in
      let size : w / 256 % 4 ≡ f.size = omega arith in
      let increment : w / 128 % 2 ≡ bit f.increment = omega arith in
      let count : w % 128 ≡ f.count = omega arith in
      λ i.
      record {
        write = (ap (λ (n : ℕ). eqb n 1) write ∙ bit-read f.write) i;
        address = (ap (λ (n : ℕ). eqb n 1) address ∙ bit-read f.address) i;
        info = (ap (λ (n : ℕ). eqb n 1) info ∙ bit-read f.info) i;
        space = space i;
        size = size i;
        increment = (ap (λ (n : ℕ). eqb n 1) increment ∙ bit-read f.increment) i;
        count = count i;
      }
