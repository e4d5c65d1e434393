use native.Mathlib.Omega.{arith}
use Rattle.packet.specs.Verdict.{verdict_listed}
use Rattle.interlock.proofs.ListLaws.{held-first, held-few, held-last, held-found, held-next}
use Rattle.interlock.proofs.walk.records_held.Goals as goal

pub loop-r-init : goal.loop-r-init
loop-r-init c = rw c.into_iter-r-iterator.ensures.into_iter_gives (held-first _ _ _ c.requires.1)

pub returns-then-record_protected : goal.returns-then-record_protected
unfolding verdict_listed
returns-then-record_protected c = λ xs l.
    rw c.at.ensures
    (held-found c.loop-r.invariant _ _ c.in-Some.ensures.steps _ c.record_protected.ensures c.if-record_protected.true xs l)

pub overflow_add-index : goal.overflow_add-index
overflow_add-index c = let few = held-few c.loop-r.invariant in omega arith

pub loop-r-preserved : goal.loop-r-preserved
loop-r-preserved c = held-next c.loop-r.invariant _ _ c.in-Some.ensures.steps _ c.record_protected.ensures c.if-record_protected.false

pub returns : goal.returns
unfolding verdict_listed
returns c = held-last c.loop-r.invariant c.in-None.ensures.steps.0
