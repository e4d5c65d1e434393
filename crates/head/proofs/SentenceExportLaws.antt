-- A sentence as C is given it.
use Prim.Native.Nat.{ℕ, ◌≤◌, ◌<◌}
use mathlib.Core.Path.{◌≡◌, ap}
use mathlib.Core.List.{List}
use mathlib.Core.Bool.{Bool, true, false, cond}
use native.Mathlib.Omega.{arith}
use lib.Dec.{ltb}
use lib.ListN.{length}
use borrow.Author.Tests.{lt-ltb, le-ltb}
use Rattle.text.specs.Room.{Filled, filled, text_left}
use Rattle.sentence.specs.Sentence.{sentence_of}
use Rattle.sentence.specs.Whole.{whole_left}
use Rattle.head.specs.SentenceExports.{sentence_left, export_text, export_sentence}

-- the bytes answered are the text's, whether it fits or not
whole-bytes : (text room after : List ℕ) (n : ℕ) → filled n after ≡ whole_left text room → n ≡ length text
unfolding whole_left text_left
whole-bytes text room after n e = go (ltb (length room) (length text)) e
  where
    go : (b : Bool) → filled n after ≡ cond b (filled (length text) room) (text_left text room) → n ≡ length text
    go true e = ap (λ (x : Filled). x.next) e
    go false e = ap (λ (x : Filled). x.next) e

module _ (number : ℕ) (room after : List ℕ) (n : ℕ) (e : filled n after ≡ whole_left (sentence_of number) room) where
  pub sentence-short_room : length room < n → sentence_left 26 n after ≡ export_sentence number room
  unfolding export_sentence export_text whole_left
  sentence-short_room h =
      let b = whole-bytes (sentence_of number) room after n e in
      let t = lt-ltb (length room) (length (sentence_of number)) (omega arith) in
      rw t (ap (λ (x : Filled). sentence_left 26 x.next x.room) (rw t at e))

  pub sentence-fits : n ≤ length room → sentence_left 0 n after ≡ export_sentence number room
  unfolding export_sentence export_text whole_left text_left
  sentence-fits h =
      let b = whole-bytes (sentence_of number) room after n e in
      let t = le-ltb (length room) (length (sentence_of number)) (omega arith) in
      rw t (ap (λ (x : Filled). sentence_left 0 x.next x.room) (rw t at e))
