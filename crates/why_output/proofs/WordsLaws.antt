-- Laws of the words that the program is started with.
use Prim.Native.Nat.{ℕ, ◌-◌, ◌<◌}
use mathlib.Core.Path.{◌≡◌, refl}
use mathlib.Core.List.{List, [], ◌∷◌}
use mathlib.Core.Bool.{Bool, true, false, not}
use native.Mathlib.Omega.{arith}
use borrow.Author.Tests.{le-ltb, lt-ltb}
use Rattle.std.specs.Prelude.{Option, is_some, is_none}
use Rattle.why_output.specs.Words.{no_words, with_word, with_words, words_of}

pub none_is : (name : Option ℕ) (b : Bool) → is_some name ≡ not b → b ≡ is_none name
none_is name true e = rw e refl
none_is name false e = rw e refl

-- by how many words there are
module _ (count : ℕ) (a b c : List ℕ) where
  pub words-many : 4 < count → no_words true ≡ words_of count (a ∷ b ∷ c ∷ [])
  unfolding words_of
  words-many h = rw (lt-ltb 4 count h) refl

  pub words-none : count < 2 → no_words false ≡ words_of count (a ∷ b ∷ c ∷ [])
  unfolding words_of with_words
  words-none h = let e : count - 1 ≡ 0 = omega arith in rw (le-ltb 4 count (omega arith), e) refl

  pub words-one : count ≡ 2 → with_word (no_words false) 1 a ≡ words_of count (a ∷ b ∷ c ∷ [])
  unfolding words_of with_words
  words-one e = rw e refl

  pub words-two : count ≡ 3 → with_word (with_word (no_words false) 1 a) 2 b ≡ words_of count (a ∷ b ∷ c ∷ [])
  unfolding words_of with_words
  words-two e = rw e refl

  pub words-three : count ≡ 4 → with_word (with_word (with_word (no_words false) 1 a) 2 b) 3 c ≡ words_of count (a ∷ b ∷ c ∷ [])
  unfolding words_of with_words
  words-three e = rw e refl
