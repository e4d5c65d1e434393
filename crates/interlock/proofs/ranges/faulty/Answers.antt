use mathlib.Core.Path.{refl}
use Rattle.interlock.specs.Guard.{faulty}
use Rattle.interlock.proofs.RangeLaws.{low-fine}
use Rattle.interlock.proofs.ranges.faulty.Goals as goal

pub returns-then-end-le-COUNT : goal.returns-then-end-le-COUNT
returns-then-end-le-COUNT c = low-fine _ _ c.if-end-le-COUNT.true

pub returns : goal.returns
unfolding faulty
returns c = rw (c.shares-2.ensures, c.shares.ensures) refl
