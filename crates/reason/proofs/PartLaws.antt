-- A part of a list, taken as the code does: no more than there is.
use Prim.Native.Nat.{ℕ, min, ◌≤◌}
use mathlib.Core.Path.{◌≡◌, refl, sym, ◌∙◌}
use mathlib.Core.List.{List}
use native.Mathlib.Omega.{arith}
use native.Mathlib.Decide.{dec_le}
use lib.ListN.{length, take}
use lib.Seq.{take_all}

pub take_within : (l : List ℕ) (n r : ℕ) → r ≡ min n (length l) → take r l ≡ take n l
take_within l n r e = go (dec_le n (length l))
  where
    go : Dec (n ≤ length l) → take r l ≡ take n l
    go (yes h) = let q : r ≡ n = omega arith in rw q refl
    go (no h) = take_all r l (omega arith) ∙ sym (take_all n l (omega arith))
