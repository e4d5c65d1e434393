-- Laws of a record in words.
use Prim.Native.Nat.{ℕ}
use mathlib.Core.Path.{◌≡◌, refl}
use mathlib.Core.List.{List, [], ◌++◌, append-nil}
use mathlib.Core.Bool.{Bool, true, false, cond}
use native.Mathlib.Omega.{arith}

-- a text that stands at the end where a test holds
pub tail_none : (b : Bool) (xs ys : List ℕ) → b ≡ false → xs ++ cond b ys [] ≡ xs
tail_none true xs ys e = let z : ◌≡◌ {A = ℕ} 0 1 = cc in absurd (omega arith)
tail_none false xs ys e = append-nil xs

pub tail-some : (b : Bool) (xs ys : List ℕ) → b ≡ true → xs ++ cond b ys [] ≡ xs ++ ys
tail-some true xs ys e = refl
tail-some false xs ys e = let z : ◌≡◌ {A = ℕ} 0 1 = cc in absurd (omega arith)
