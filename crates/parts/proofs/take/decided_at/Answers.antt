use native.Mathlib.Omega.{arith}
use Rattle.cue.specs.Records.{mark_at}
use Rattle.parts.proofs.TakeLaws.{decided-most, decided_early, decided-late}
use Rattle.parts.proofs.take.decided_at.Goals as goal

pub returns-then-index-eq-MOST : goal.returns-then-index-eq-MOST
unfolding mark_at
returns-then-index-eq-MOST c = (decided-most _ _ _ c.pair_at-mark.ensures c.if-index-eq-MOST.true, omega arith)

pub returns-then-rest-mark : goal.returns-then-rest-mark
unfolding mark_at
returns-then-rest-mark c = (decided_early _ _ _ c.pair_at-mark.ensures c.if-index-eq-MOST.false c.if-rest-mark.true, omega arith)

pub returns : goal.returns
unfolding mark_at
returns c = let r = c.record_bytes.ensures in (
  decided-late _ _ _ c.pair_at-mark.ensures c.if-index-eq-MOST.false _ c.if-rest-mark.false r.0,
  r.1,
)
