-- Laws of a space in words.
use Prim.Native.Nat.{ℕ, ◌≤◌, ◌<◌}
use mathlib.Core.Path.{◌≡◌, refl}
use mathlib.Core.List.{[]}
use mathlib.Core.Bool.{Bool, true, false, cond}
use native.Mathlib.Omega.{arith}
use lib.Dec.{eqb}
use lib.ListN.{length}
use Rattle.text.specs.Number.{ascii}
use Rattle.text.specs.Line.{numbered}
use Rattle.text.proofs.LineLaws.{cond-length, numbered-length}
use Rattle.lbp16.specs.Space.{Space, registers, eeprom, status, information, absent, space_of, is_absent}
use Rattle.space_text.specs.SpaceText.{space_word, space_text}

-- A space's name, as the code chooses it.
pub space-word_is : (n : ℕ)
    → cond (eqb n 0) (ascii "registers") (cond (eqb n 2) (ascii "eeprom") (cond (eqb n 6) (ascii "status") (cond (eqb n 7) (ascii "information") [])))
    ≡ space_word (space_of n)
unfolding space_word space_of
space-word_is n = go (eqb n 0) (eqb n 2) (eqb n 6) (eqb n 7)
  where
    go : (a b c d : Bool)
        → cond a (ascii "registers") (cond b (ascii "eeprom") (cond c (ascii "status") (cond d (ascii "information") [])))
        ≡ space_word (cond a registers (cond b eeprom (cond c status (cond d information absent))))
    go true b c d = refl
    go false true c d = refl
    go false false true d = refl
    go false false false true = refl
    go false false false false = refl

-- with its number where the card has none
pub space-numbered : (n : ℕ) → is_absent (space_of n) ≡ true → space_text n ≡ numbered (ascii "space ") n
unfolding space_text
space-numbered n e = rw e refl

pub space-named : (n : ℕ) → is_absent (space_of n) ≡ false → space_text n ≡ space_word (space_of n)
unfolding space_text
space-named n e = rw e refl

-- how long it is
pub word_size : (s : Space) → length (space_word s) ≤ 11
unfolding space_word ascii
word_size registers = omega arith
word_size eeprom = omega arith
word_size status = omega arith
word_size information = omega arith
word_size absent = omega arith

pub space-size : (n : ℕ) → n < 256 → length (space_text n) ≤ 26
unfolding space_text ascii
space-size n h =
    let other = numbered-length (ascii "space ") n (omega arith) in
    cond-length 26 (is_absent (space_of n)) (numbered (ascii "space ") n) (space_word (space_of n)) (omega arith) (omega (arith, word_size (space_of n)))
