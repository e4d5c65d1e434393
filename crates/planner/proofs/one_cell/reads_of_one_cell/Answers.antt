use mathlib.Core.Path.{ap}
use Rattle.std.proofs.Common.{Some}
use Rattle.planner.proofs.OneCellLaws.{counting-first, no_read, too_many, counting-again, counted, too_few}
use Rattle.planner.proofs.one_cell.reads_of_one_cell.Goals as goal

pub loop-r-init : goal.loop-r-init
loop-r-init c = rw c.into_iter-r-iterator.ensures.into_iter_gives (counting-first _)

pub returns-then-not-reads : goal.returns-then-not-reads
returns-then-not-reads c = no_read _ _ _ _ _ c.loop-r.invariant c.in-Some.ensures.steps _ _ c.record_at-cell.ensures c.reads.ensures c.if-not-reads.true

pub returns-then-count-eq127 : goal.returns-then-count-eq127
returns-then-count-eq127 c = too_many _ _ _ _ _ c.loop-r.invariant c.in-Some.ensures.steps c.if-count-eq127.true

pub loop-r-preserved : goal.loop-r-preserved
loop-r-preserved c = counting-again _ _ _ _ _ c.loop-r.invariant c.in-Some.ensures.steps c.if-count-eq127.false

pub returns-then-count-lt2 : goal.returns-then-count-lt2
returns-then-count-lt2 c = too_few _ _ _ c.loop-r.invariant c.in-None.ensures.steps.0 c.if-count-lt2.true

pub returns : goal.returns
returns c = (c.loop-r.invariant.few, λ n x o. ap Some (counted _ _ _ c.loop-r.invariant c.in-None.ensures.steps.0 n x o))
