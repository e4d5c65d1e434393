use mathlib.Core.Path.{sym, ◌∙◌}
use native.Mathlib.Omega.{arith}
use Rattle.interlock.proofs.RangeLaws.{touches-end, touches-here, touches-past}
use Rattle.interlock.proofs.ranges.touches.Goals as goal

pub returns-then-shares : goal.returns-then-shares
returns-then-shares c = touches-here _ _ _ c.loop-rest-test.true (sym c.shares.ensures ∙ c.if-shares.true) ∙ sym c.loop-rest.invariant

pub loop-rest-preserved : goal.loop-rest-preserved
loop-rest-preserved c = c.loop-rest.invariant ∙ touches-past _ _ _ c.loop-rest-test.true (sym c.shares.ensures ∙ c.if-shares.false)

pub returns : goal.returns
returns c = let less = c.loop-rest-test.false in touches-end _ _ _ (omega arith) ∙ sym c.loop-rest.invariant
