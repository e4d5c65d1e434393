-- Laws of the file of pointers.
use Prim.Native.Nat.{ℕ, ◌+◌, ◌*◌}
use mathlib.Core.Path.{◌≡◌}
use mathlib.Core.List.{List, [], ◌∷◌}
use native.Mathlib.Omega.{arith}
use lib.ListN.{take, drop}
use lib.Seq.{drop-drop}
use Rattle.packet.specs.Bytes.{number}
use Rattle.why_output.specs.Given.{quad_at}

-- four bytes are two and two
number-four : (l : List ℕ) → number (take 2 l) + 65536 * number (take 2 (drop 2 l)) ≡ number (take 4 l)
unfolding number
number-four [] = omega arith
number-four (a ∷ []) = omega arith
number-four (a ∷ b ∷ []) = omega arith
number-four (a ∷ b ∷ c ∷ []) = omega arith
number-four (a ∷ b ∷ c ∷ d ∷ l) = omega arith

pub quad_is : (file : List ℕ) (at r low high : ℕ) → low ≡ number (take 2 (drop at file))
    → high ≡ number (take 2 (drop (at + 2) file))
    → r ≡ low + 65536 * high → r ≡ quad_at file at
unfolding quad_at
quad_is file at r low high e f g = rw (g, e, f, ← drop-drop 2 at file) (number-four (drop at file))
