-- Laws of lines.
use Prim.Native.Nat.{ℕ, suc, ◌+◌, ◌^◌, ◌≤◌, ◌<◌}
use mathlib.Core.List.{List}
use mathlib.Core.Bool.{Bool, true, false, cond}
use native.Mathlib.Omega.{arith}
use lib.ListN.{length, length-append}
use Rattle.text.specs.Number.{ascii}
use Rattle.text.specs.Line.{numbered, pair_line, refused_line}
use Rattle.text.proofs.DecimalLaws.{decimal-length}

-- the longest line of two numbers of so many digits
pub pair-length : (first second : List ℕ) (a b n k : ℕ) → n < 10 ^ suc a → k < 10 ^ suc b
    → length (pair_line first n second k) ≤ length first + length second + suc a + suc b + 1
unfolding pair_line numbered ascii
pair-length first second a b n k h l =
    let d = decimal-length a n h in
    let e = decimal-length b k l in
    simp length-append (omega arith)

pub refused-length : (n k : ℕ) → n < 2 ^ 64 → k < 2 ^ 64 → length (refused_line n k) ≤ 53
unfolding refused_line ascii
refused-length n k h l = omega (arith, pair-length (ascii "refused ") (ascii " at ") 19 19 n k (omega arith) (omega arith))

-- what holds of both of two texts' lengths
pub cond-length : (n : ℕ) (b : Bool) (xs ys : List ℕ) → length xs ≤ n → length ys ≤ n → length (cond b xs ys) ≤ n
cond-length n true xs ys h k = h
cond-length n false xs ys h k = k

-- a number of 64 bits behind its text
pub numbered-length : (before : List ℕ) (n : ℕ) → n < 2 ^ 64 → length (numbered before n) ≤ length before + 20
unfolding numbered
numbered-length before n h = rw length-append (omega (arith, decimal-length 19 n (omega arith)))
