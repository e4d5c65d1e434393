-- The number of bytes read one after the other, low byte first, and of the two bytes of a word or an address.
use Prim.Native.Nat.{ℕ, suc, ◌+◌, ◌*◌, ◌≤◌, ◌<◌}
use mathlib.Core.Path.{◌≡◌, refl}
use mathlib.Core.List.{List}
use native.Mathlib.Nat.{add-suc}
use native.Mathlib.Numerals.{add-one}
use native.Mathlib.Omega.{arith}
use lib.ListN.{length, take, drop, get_or, drop_of_length-le}
use lib.Seq.{drop-cons, take-nil}
use Rattle.packet.specs.Bytes.{number}

pub number-next : (w : ℕ) (s : List ℕ) (at : ℕ) → at < length s
    → number (take (suc w) (drop at s)) ≡ get_or s at 0 + 256 * number (take w (drop (at + 1) s))
unfolding number
number-next w s at h = rw (drop-cons s at 0 h, add-one) refl

-- the same, k bytes further
pub number-from : (w : ℕ) (s : List ℕ) (at k : ℕ) → at + k < length s
    → number (take (suc w) (drop (at + k) s)) ≡ get_or s (at + k) 0 + 256 * number (take w (drop (at + suc k) s))
unfolding number
number-from w s at k h = rw (drop-cons s (at + k) 0 h, add-suc) refl

-- past the end
pub number-none : (w : ℕ) (s : List ℕ) (at : ℕ) → length s ≤ at → number (take w (drop at s)) ≡ 0
unfolding number
number-none w s at h = rw (drop_of_length-le s h, take-nil) refl

pub pair_one : (s : List ℕ) (at : ℕ) → at < length s → length s ≤ at + 1 → number (take 2 (drop at s)) ≡ get_or s at 0
pair_one s at h k = omega (arith, number-next 1 s at h, number-none 1 s (at + 1) k)

pub pair-two : (s : List ℕ) (at : ℕ) → at + 1 < length s
    → number (take 2 (drop at s)) ≡ get_or s at 0 + 256 * get_or s (at + 1) 0
unfolding number
pair-two s at h = omega (arith, number-next 1 s at (omega arith), number-next 0 s (at + 1) h)
