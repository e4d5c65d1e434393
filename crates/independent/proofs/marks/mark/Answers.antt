use native.Mathlib.Omega.{arith}
use Rattle.independent.proofs.LoopLaws.{marking_first, marking_here, marking_again, marking_last}
use Rattle.independent.proofs.WalkLaws.{inside_here}
use Rattle.independent.proofs.marks.mark.Goals as goal

pub loop-r-init : goal.loop-r-init
loop-r-init c = let p = c.requires in rw c.into_iter-r-iterator.ensures.into_iter_gives (marking_first _ _ p.0 p.1)

pub bounds-marks-i : goal.bounds-marks-i
bounds-marks-i c =
    let inside = inside_here (marking_here _ _ _ c.loop-r.invariant _ _ c.in-Some.ensures.steps) in
    omega (arith, c.place_of-at.ensures, c.loop-r.invariant.marked.bytes)

pub bounds-marks-i-in-loop-r : goal.bounds-marks-i-in-loop-r
bounds-marks-i-in-loop-r c =
    let inside = inside_here (marking_here _ _ _ c.loop-r.invariant _ _ c.in-Some.ensures.steps) in
    omega (arith, c.place_of-at.ensures, c.loop-r.invariant.marked.bytes)

pub loop-r-preserved : goal.loop-r-preserved
loop-r-preserved c = marking_again _ _ _ c.loop-r.invariant _ _ c.in-Some.ensures.steps _ c.place_of-at.ensures _ c.marked_in.ensures

pub returns : goal.returns
returns c = marking_last _ _ _ c.loop-r.invariant c.in-None.ensures.steps.0
