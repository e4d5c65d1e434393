use Rattle.interlock.proofs.RangeLaws.{none-behind, one-here}
use Rattle.interlock.proofs.ranges.shares.Goals as goal

pub returns-then-place-width : goal.returns-then-place-width
returns-then-place-width c = none-behind _ _ _ _ c.if-place-width.true

pub returns : goal.returns
returns c = one-here _ _ _ _ c.if-place-width.false
