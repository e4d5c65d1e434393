use borrow.Author.Rules.{rules}
use native.Mathlib.Omega.{arith}
use lib.ListN.{length}
use mathlib.Core.Path.{sym, ap, ◌∙◌}
use Rattle.lbp16.specs.Answer.{refusal}
use Rattle.lbp16.proofs.RuleLaws.{rule_number_range}
use Rattle.cue.proofs.ReadingLaws.{front-there, none-refuses}
use Rattle.cue.proofs.LoopLaws.{held_first, roomy, plan-refused, plan-ended, bytes_whole, held-again, shorter}
use Rattle.cue.specs.Compile.{compile_listed}
use Prim.Native.Nat.{◌≤◌}
use Rattle.cue.specs.Summary.{none}
use Rattle.cue.proofs.plan.plan.Goals as goal

pub loop-rest-init : goal.loop-rest-init
loop-rest-init c = record { s = none; held = held_first _ _ c.empty-packer.ensures }

pub returns-in-Err : goal.returns-in-Err
unfolding compile_listed
returns-in-Err c =
    let some = rule_number_range c.in-Err.rule in
    ap refusal c.at.ensures
    ∙ plan-refused _ _ _ _ _ c.loop-rest.invariant.held _ (omega arith) c.in-Err.ensures (λ z. omega arith)

pub whole_record-r-requires : goal.whole_record-r-requires
whole_record-r-requires c = front-there _ _ (sym c.record_refusal.ensures ∙ (none-refuses _ c.in_default.not-Err))

pub turned-packer-requires : goal.turned-packer-requires
turned-packer-requires c = (roomy c.loop-rest.invariant.held, c.row_of.ensures)

pub slice_bounds-rest-count : goal.slice_bounds-rest-count
slice_bounds-rest-count c = let at_whole : c.record_bytes-n.result ≤ length c.loop-rest.rest.now = bytes_whole _ _ _ _ _ _ _ _
    c.loop-rest.invariant.held
    c.loop-rest-test.true
    c.record_refusal.ensures
    (none-refuses _ c.in_default.not-Err)
    c.whole_record-r.ensures
    c.record_bytes-n.ensures.0 in
    at_whole

pub slice_bounds-rest-start : goal.slice_bounds-rest-start
slice_bounds-rest-start c = let at_whole : c.record_bytes-n.result ≤ length c.loop-rest.rest.now = bytes_whole _ _ _ _ _ _ _ _
    c.loop-rest.invariant.held
    c.loop-rest-test.true
    c.record_refusal.ensures
    (none-refuses _ c.in_default.not-Err)
    c.whole_record-r.ensures
    c.record_bytes-n.ensures.0 in
    let h = at_whole in search rules

pub slice_bounds-rest-end : goal.slice_bounds-rest-end
slice_bounds-rest-end c = let at_whole : c.record_bytes-n.result ≤ length c.loop-rest.rest.now = bytes_whole _ _ _ _ _ _ _ _
    c.loop-rest.invariant.held
    c.loop-rest-test.true
    c.record_refusal.ensures
    (none-refuses _ c.in_default.not-Err)
    c.whole_record-r.ensures
    c.record_bytes-n.ensures.0 in
    let h = at_whole in search rules

pub overflow_add-index : goal.overflow_add-index
overflow_add-index c = let h = c.loop-rest.invariant.held.few in omega arith

pub loop-rest-smaller : goal.loop-rest-smaller
loop-rest-smaller c = shorter _ _ _ _ _ _ _ _
    c.loop-rest.invariant.held
    c.loop-rest-test.true
    c.record_refusal.ensures
    (none-refuses _ c.in_default.not-Err)
    c.whole_record-r.ensures
    c.record_bytes-n.ensures.0

pub loop-rest-preserved : goal.loop-rest-preserved
loop-rest-preserved c = record {
  s = _;
  held =
      held-again _ _ _ _ _ _ _ _
      c.loop-rest.invariant.held
      c.loop-rest-test.true
      c.record_refusal.ensures
      (none-refuses _ c.in_default.not-Err)
      c.whole_record-r.ensures
      c.record_bytes-n.ensures.0 _
      c.turned-packer.ensures;
}

pub returns : goal.returns
unfolding compile_listed
returns c = plan-ended _ _ _ _ _ c.loop-rest.invariant.held c.loop-rest-test.false
