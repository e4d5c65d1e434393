use native.Mathlib.Omega.{arith}
use mathlib.Core.Path.{sym, ◌∙◌}
use lib.Seq.{length-take-le}
use Rattle.cue_text.specs.Assembled.{text_listed}
use Rattle.cue_text.proofs.WordLaws.{line-behind}
use Rattle.cue_text.proofs.WalkLaws.{walk_first, walk_refused, walk-next, walk-answer, walk-room, room-same, roomy}
use Rattle.cue_text.proofs.walk.walk_with.Goals as goal

pub loop-at-init : goal.loop-at-init
loop-at-init c = walk_first _ _ _ c.requires

pub slice_bounds-said_at-end : goal.slice_bounds-said_at-end
slice_bounds-said_at-end c = let w = c.loop-at.invariant in omega (arith, w.names, w.places)

pub slice_bounds-said_at-end-in-loop-at : goal.slice_bounds-said_at-end-in-loop-at
slice_bounds-said_at-end-in-loop-at c = let w = c.loop-at.invariant in
    sym (length-take-le _ _ (omega (arith, w.names, w.places)))

pub said_at-requires : goal.said_at-requires
said_at-requires c = c.loop-at.invariant.within

pub shape_of-table-in-Err : goal.shape_of-table-in-Err
shape_of-table-in-Err c = c.loop-at.invariant.places ∙ sym c.requires

pub shape_of-out-in-Err : goal.shape_of-out-in-Err
shape_of-out-in-Err c = room-same _ _ _ _ _ _ c.loop-at.invariant

pub returns-in-Err : goal.returns-in-Err
unfolding text_listed
returns-in-Err c =
    let h = walk_refused _ _ _ _ _ _ c.loop-at.invariant c.loop-at-test.true _ (rw c.in-Err.is at c.said_at.ensures) in
    rw c.at.ensures (record { answer = h.0; out_after = h.1 })

pub turned-t-requires : goal.turned-t-requires
turned-t-requires c = roomy _ _ _ _ _ _ c.loop-at.invariant c.loop-at-test.true _ (rw c.in-Ok.is at c.said_at.ensures) (omega arith)

pub overflow_add-at : goal.overflow_add-at
overflow_add-at c = let h = line-behind _ _ _ _ c.rest.ensures c.line_bytes-at.ensures c.loop-at-test.true in
    omega (arith, h)

pub loop-at-smaller : goal.loop-at-smaller
loop-at-smaller c = let h = line-behind _ _ _ _ c.rest.ensures c.line_bytes-at.ensures c.loop-at-test.true in
    omega (arith, h)

pub loop-at-preserved : goal.loop-at-preserved
loop-at-preserved c = let b = rw c.rest.ensures at c.line_bytes-at.ensures in
    let t = c.turned-t.ensures in
    rw (b, t.0, t.1, t.2)
    (walk-next _ _ _ _ _ _ c.loop-at.invariant c.loop-at-test.true _ (rw c.in-Ok.is at c.said_at.ensures))

pub shape_of-table : goal.shape_of-table
shape_of-table c = c.loop-at.invariant.places ∙ sym c.requires

pub shape_of-out : goal.shape_of-out
shape_of-out c = room-same _ _ _ _ _ _ c.loop-at.invariant

pub returns : goal.returns
unfolding text_listed
returns c = let w = c.loop-at.invariant in
    record {
      answer = walk-answer _ _ _ _ _ _ w (omega arith);
      out_after = walk-room _ _ _ _ _ _ w (omega arith);
    }
