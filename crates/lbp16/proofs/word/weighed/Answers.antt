use Prim.Native.Nat.{ℕ, ◌*◌, ◌≤◌}
use mathlib.Core.Bool.{Bool, true, false}
use mathlib.Core.Path.{◌≡◌, refl}
use mir.Val.{bool_byte}
use native.Mathlib.Nat.{one-mul, zero-mul, le_refl}
use native.Mathlib.Omega.{arith}
use Rattle.lbp16.specs.Word.{bit}
use Rattle.lbp16.proofs.word.weighed.Goals as goal

by : (b : Bool) (w : ℕ) → (bool_byte b * w ≡ bit b * w) × (bool_byte b * w ≤ w)
unfolding bit
by true w = rw one-mul (refl, le_refl _)
by false w = rw zero-mul (refl, omega arith)

pub returns : goal.returns
returns c = rw c.from.ensures (by _ _)
