use Prim.Native.Nat.{◌≤◌}
use native.Mathlib.Omega.{arith}
use lib.ListN.{length, length-take, length-drop}
use Rattle.lbp16.proofs.RuleLaws.{rule_number_range}
use Rattle.cue.proofs.ReadingLaws.{none-refuses}
use Rattle.cue_text.specs.Assembled.{text_listed}
use Rattle.list_text.proofs.WriteLaws.{counting-first, counting-last, counting-refused, counting-whole, counting-some, counting-next}
use Rattle.list_text.proofs.text_needed.Goals as goal

pub loop-rest-init : goal.loop-rest-init
loop-rest-init c = counting-first _

pub returns-in-Err : goal.returns-in-Err
unfolding text_listed
returns-in-Err c =
    let e = rw c.in-Err.is at c.record_refusal.ensures in
    rw c.at.ensures (counting-refused c.loop-rest.invariant c.loop-rest-test.true _ e (omega (arith, rule_number_range c.in-Err.rule)))

pub overflow_add-bytes : goal.overflow_add-bytes
overflow_add-bytes c = let s = c.loop-rest.invariant in
    let few = s.few in
    let small = s.small in
    let line = c.line_bytes-bytes.ensures.1 in
    omega arith

pub slice_bounds-rest-count : goal.slice_bounds-rest-count
slice_bounds-rest-count c = let at_whole : c.record_bytes-n.result ≤ length c.loop-rest.rest.now =
    counting-whole c.loop-rest.invariant c.loop-rest-test.true _ c.record_refusal.ensures (none-refuses _ c.in_default.not-Err) _ c.record_at-r.ensures _
    c.line_bytes-bytes.ensures.0 _
    c.record_bytes-n.ensures.0 in
    at_whole

pub slice_bounds-rest-start : goal.slice_bounds-rest-start
slice_bounds-rest-start c = let at_whole : c.record_bytes-n.result ≤ length c.loop-rest.rest.now =
    counting-whole c.loop-rest.invariant c.loop-rest-test.true _ c.record_refusal.ensures (none-refuses _ c.in_default.not-Err) _ c.record_at-r.ensures _
    c.line_bytes-bytes.ensures.0 _
    c.record_bytes-n.ensures.0 in
    at_whole

pub overflow_add-index : goal.overflow_add-index
overflow_add-index c = let few = c.loop-rest.invariant.few in omega arith

pub loop-rest-smaller : goal.loop-rest-smaller
loop-rest-smaller c = let at_whole : c.record_bytes-n.result ≤ length c.loop-rest.rest.now =
    counting-whole c.loop-rest.invariant c.loop-rest-test.true _ c.record_refusal.ensures (none-refuses _ c.in_default.not-Err) _ c.record_at-r.ensures _
    c.line_bytes-bytes.ensures.0 _
    c.record_bytes-n.ensures.0 in
    let some =
    counting-some c.loop-rest.invariant c.loop-rest-test.true _ c.record_refusal.ensures (none-refuses _ c.in_default.not-Err) _ c.record_at-r.ensures _
    c.line_bytes-bytes.ensures.0 _
    c.record_bytes-n.ensures.0 in
    simp (length-take, length-drop) (omega arith)

pub loop-rest-preserved : goal.loop-rest-preserved
loop-rest-preserved c = counting-next c.loop-rest.invariant c.loop-rest-test.true _ c.record_refusal.ensures (none-refuses _ c.in_default.not-Err) _
    c.record_at-r.ensures _
    c.line_bytes-bytes.ensures.0 _
    c.record_bytes-n.ensures.0
    c.line_bytes-bytes.ensures.1

pub returns : goal.returns
unfolding text_listed
returns c = counting-last c.loop-rest.invariant c.loop-rest-test.false
