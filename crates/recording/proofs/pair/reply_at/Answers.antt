use native.Mathlib.Omega.{arith}
use Rattle.recording.proofs.ReplyLaws.{reply-end, reply-cut, reply-unmarked, reply-within, reply-length, reply_wrong, reply-good}
use Rattle.recording.proofs.pair.reply_at.Goals as goal

pub returns-then-m-expected : goal.returns-then-m-expected
returns-then-m-expected c = reply-length _ _ _ _ c.frame_at-frame.ensures _ c.in-Whole.is c.if-m-expected.true

pub slice_bounds-first_wrong-end : goal.slice_bounds-first_wrong-end
slice_bounds-first_wrong-end c = let a = c.args in
    reply-within a.expected.now _ a.n _ c.frame_at-frame.ensures _ c.in-Whole.is

pub returns-in-Some : goal.returns-in-Some
returns-in-Some c =
    let inside = c.in-Some.ensures.inside in
    reply_wrong _ _ _ _ c.frame_at-frame.ensures _ c.in-Whole.is c.if-m-expected.false _ c.in-Some.ensures.place (omega arith)

pub overflow_add-result : goal.overflow_add-result
overflow_add-result c = let a = c.args in
    let h = reply-within a.expected.now _ a.n _ c.frame_at-frame.ensures _ c.in-Whole.is in
    omega (arith, c.requires)

pub overflow_add-result-in-Whole : goal.overflow_add-result-in-Whole
overflow_add-result-in-Whole c = let a = c.args in
    let h = reply-within a.expected.now _ a.n _ c.frame_at-frame.ensures _ c.in-Whole.is in
    omega (arith, c.requires)

pub returns-in-End : goal.returns-in-End
returns-in-End c = reply-end _ _ _ _ c.frame_at-frame.ensures c.in-End.is

pub returns-in-Cut : goal.returns-in-Cut
returns-in-Cut c = reply-cut _ _ _ _ c.frame_at-frame.ensures c.in-Cut.is

pub returns-in-Unmarked : goal.returns-in-Unmarked
returns-in-Unmarked c = reply-unmarked _ _ _ _ c.frame_at-frame.ensures c.in-Unmarked.is

pub returns-in_default : goal.returns-in_default
returns-in_default c =
    reply-good _ _ _ _ c.frame_at-frame.ensures _ c.in-Whole.is c.if-m-expected.false _ (rw c.in_default.is at c.first_wrong.ensures.place) (omega arith)
