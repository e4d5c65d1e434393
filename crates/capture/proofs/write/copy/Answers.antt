use mathlib.Core.Path.{◌∙◌}
use native.Mathlib.Omega.{arith}
use lib.ListN.{length-set}
use Rattle.packet.proofs.StoreLaws.{copy_step}
use Rattle.capture.proofs.write.copy.Goals as goal

pub loop-i-preserved : goal.loop-i-preserved
loop-i-preserved c = (
  omega arith,
  rw length-set c.loop-i.invariant.1,
  c.loop-i.invariant.2 ∙ copy_step _ _ _ _ _ _ c.loop-i-test.true (omega arith),
)
