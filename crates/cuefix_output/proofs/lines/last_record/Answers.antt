use native.Mathlib.Omega.{arith}
use Rattle.cuefix_output.proofs.LookLaws.{walking_first, walking_some, walking_next, walking_last}
use Rattle.cuefix_output.proofs.lines.last_record.Goals as goal

pub loop-size-init : goal.loop-size-init
loop-size-init c = walking_first _ _ _ _ c.requires c.size_at-size.ensures

pub overflow_sub-to : goal.overflow_sub-to
overflow_sub-to c = c.loop-size.invariant.within

pub loop-size-smaller : goal.loop-size-smaller
loop-size-smaller c = let l = c.loop-size.invariant in
    omega (arith, walking_some l, l.within)

pub loop-size-preserved : goal.loop-size-preserved
loop-size-preserved c = walking_next c.loop-size.invariant c.loop-size-test.true _ c.size_at-size-in-loop-size.ensures

pub returns : goal.returns
returns c = let l = c.loop-size.invariant in
    (walking_last l c.loop-size-test.false, l.within)
