use Prim.Native.Nat.{◌*◌, ◌≤◌}
use mathlib.Core.Path.{◌≡◌, refl}
use mathlib.Core.Bool.{Bool, true, false}
use native.Mathlib.Omega.{arith}
use mir.Val.{bool_byte}
use Rattle.lbp16.specs.Word.{bit}
use Rattle.spi.proofs.increment_bit.Goals as goal

bit_by : (b : Bool) → (bool_byte b * 2048 ≡ bit b * 2048) × (bool_byte b * 2048 ≤ 2048)
unfolding bit
bit_by true = (refl, omega arith)
bit_by false = (refl, omega arith)

pub returns : goal.returns
returns c = rw c.from.ensures (bit_by c.args.h.increment)
