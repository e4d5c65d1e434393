use borrow.Author.Rules.{rules}
use Prim.Native.Nat.{◌≤◌}
use native.Mathlib.Omega.{arith}
use lib.ListN.{length}
use Rattle.lbp16.proofs.RuleLaws.{rule_number_range}
use Rattle.cue.proofs.ReadingLaws.{none-refuses}
use Rattle.list_reason.proofs.ReachLaws.{going-first, rest-shorter, going-refused, going-ended, going-whole, going-shorter, going_next}
use Rattle.list_reason.proofs.walk.Goals as goal

pub loop-rest-init : goal.loop-rest-init
loop-rest-init c = going-first _

pub overflow_sub-result : goal.overflow_sub-result
overflow_sub-result c = rest-shorter c.loop-rest.invariant

pub returns-in-Err : goal.returns-in-Err
returns-in-Err c =
    let some = rule_number_range c.in-Err.rule in
    going-refused c.loop-rest.invariant _ c.loop-rest-test.true c.in-Err.ensures (λ z. omega arith)

pub slice_bounds-rest-count : goal.slice_bounds-rest-count
slice_bounds-rest-count c = let at_whole : c.record_bytes-n.result ≤ length c.loop-rest.rest.now =
    going-whole c.loop-rest.invariant c.loop-rest-test.true _ c.record_refusal.ensures (none-refuses _ c.in_default.not-Err) _ c.record_at-r.ensures _
    c.record_bytes-n.ensures.0 in
    at_whole

pub slice_bounds-rest-start : goal.slice_bounds-rest-start
slice_bounds-rest-start c = let at_whole : c.record_bytes-n.result ≤ length c.loop-rest.rest.now =
    going-whole c.loop-rest.invariant c.loop-rest-test.true _ c.record_refusal.ensures (none-refuses _ c.in_default.not-Err) _ c.record_at-r.ensures _
    c.record_bytes-n.ensures.0 in
    search rules

pub slice_bounds-rest-end : goal.slice_bounds-rest-end
slice_bounds-rest-end c = let at_whole : c.record_bytes-n.result ≤ length c.loop-rest.rest.now =
    going-whole c.loop-rest.invariant c.loop-rest-test.true _ c.record_refusal.ensures (none-refuses _ c.in_default.not-Err) _ c.record_at-r.ensures _
    c.record_bytes-n.ensures.0 in
    search rules

pub overflow_add-index : goal.overflow_add-index
overflow_add-index c = let few = c.loop-rest.invariant.few in omega arith

pub loop-rest-smaller : goal.loop-rest-smaller
loop-rest-smaller c = going-shorter c.loop-rest.invariant c.loop-rest-test.true _ c.record_refusal.ensures (none-refuses _ c.in_default.not-Err) _
    c.record_at-r.ensures _
    c.record_bytes-n.ensures.0

pub loop-rest-preserved : goal.loop-rest-preserved
loop-rest-preserved c = going_next c.loop-rest.invariant c.loop-rest-test.true _ c.record_refusal.ensures (none-refuses _ c.in_default.not-Err) _ c.record_at-r.ensures _
    c.record_bytes-n.ensures.0

pub returns : goal.returns
returns c = going-ended c.loop-rest.invariant c.loop-rest-test.false
