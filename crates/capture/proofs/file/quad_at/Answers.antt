use Prim.Native.Nat.{◌+◌, ◌*◌}
use mathlib.Core.Path.{ap₂}
use Rattle.capture.specs.File.{quad_at}
use Rattle.capture.proofs.file.quad_at.Goals as goal

pub returns : goal.returns
unfolding quad_at
returns c = ap₂ (λ a b. 65536 * a + b) c.pair_at.ensures.0 c.pair_at-2.ensures.0
