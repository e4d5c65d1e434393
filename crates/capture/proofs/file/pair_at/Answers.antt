use Prim.Native.Nat.{◌+◌, ◌*◌}
use mathlib.Core.Path.{ap₂}
use native.Mathlib.Omega.{arith}
use Rattle.capture.specs.File.{pair_at}
use Rattle.capture.proofs.file.pair_at.Goals as goal

pub returns : goal.returns
unfolding pair_at
returns c = (
  ap₂ (λ a b. 256 * a + b) c.byte_at.ensures.0 c.byte_at-2.ensures.0,
  omega (arith, c.byte_at.ensures.1, c.byte_at-2.ensures.1),
)
