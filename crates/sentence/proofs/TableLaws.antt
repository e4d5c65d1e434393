-- How long the sentences are.
use Prim.Native.Nat.{ℕ, ◌≤◌}
use mathlib.Core.Path.{◌≡◌, refl}
use mathlib.Core.List.{List, [], ◌∷◌}
use mathlib.Core.Bool.{Bool, true, false, ◌&&◌, cond}
use native.Mathlib.Omega.{arith}
use lib.Dec.{eqb, ltb}
use lib.ListN.{length}
use borrow.Author.Tests.{ltb-true}
use Rattle.text.specs.Number.{ascii}
use Rattle.sentence.specs.Sentence.{Entry, sentences, no_meaning, says_of, sentence_of}

-- the longest sentence
abbrev pub longest : ℕ
longest = 100

unfoldable all_short : List Entry → Bool
all_short [] = true
all_short (e ∷ es) = ltb (length e.says) 101 && all_short es

table-short : all_short sentences ≡ true
unfolding all_short sentences ascii
table-short = refl

-- No sentence has more bytes than that.
says-short : (n : ℕ) (es : List Entry) → all_short es ≡ true → length (says_of n es) ≤ longest
unfolding says_of all_short no_meaning ascii
says-short n [] h = omega arith
says-short n (e ∷ es) h = go (eqb n e.number) (ltb (length e.says) 101) refl h (says-short n es)
  where
    go : (b t : Bool) → ltb (length e.says) 101 ≡ t → (t && all_short es) ≡ true → (all_short es ≡ true → length (says_of n es) ≤ longest)
        → length (cond b e.says (says_of n es)) ≤ longest
    go true true p h more = let l = ltb-true (length e.says) 101 p in omega arith
    go false true p h more = more h
    go b false p h more = absurd cc

pub sentence-short : (n : ℕ) → length (sentence_of n) ≤ longest
unfolding sentence_of
sentence-short n = says-short n sentences table-short
