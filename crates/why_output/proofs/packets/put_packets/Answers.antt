use mathlib.Core.Path.{refl, ap, ◌∙◌}
use native.Mathlib.Omega.{arith}
use lib.ListN.{length, length-take, length-drop}
use Rattle.text.proofs.RoomLaws.{put-within}
use Rattle.why_output.proofs.PacketsLaws.{judging_start, judging_stop, judging_within, judging_next}
use Rattle.why_output.proofs.packets.put_packets.Goals as goal

pub loop-stop-init : goal.loop-stop-init
loop-stop-init c = (judging_start _ _ _ _, refl, refl)

pub shape_of-room-in-Err : goal.shape_of-room-in-Err
shape_of-room-in-Err c = (put-within _ _ _ c.put_stop.ensures).1 ∙ ap length c.loop-stop.invariant.2

pub shape_of-store-in-Err : goal.shape_of-store-in-Err
shape_of-store-in-Err c = c.part_at-next.auto.store ∙ c.loop-stop.invariant.0.store_bytes_lem

pub returns-in-Err : goal.returns-in-Err
returns-in-Err c = let l = c.loop-stop.invariant in
    rw (l.1, judging_stop l.0 c.part_at-next.ensures _ c.in-Err.is, l.2) at c.put_stop.ensures

pub overflow_add-rest : goal.overflow_add-rest
overflow_add-rest c = let s = c.loop-stop.invariant.0 in
    let w = judging_within s c.part_at-next.ensures _ c.in-Ok.is in
    omega (arith, s.few, w)

pub slice_bounds-rest-count : goal.slice_bounds-rest-count
slice_bounds-rest-count c = judging_within c.loop-stop.invariant.0 c.part_at-next.ensures _ c.in-Ok.is

pub slice_bounds-rest-start : goal.slice_bounds-rest-start
slice_bounds-rest-start c = slice_bounds-rest-count c

pub loop-stop-smaller : goal.loop-stop-smaller
loop-stop-smaller c =
    let w = judging_within c.loop-stop.invariant.0 c.part_at-next.ensures _ c.in-Ok.is in
    simp (length-take, length-drop) (omega (arith, w))

pub loop-stop-preserved : goal.loop-stop-preserved
loop-stop-preserved c = let l = c.loop-stop.invariant in (
  judging_next l.0 c.part_at-next.ensures _ c.in-Ok.is _ _
      c.in_frame.ensures
      c.pointed_in.ensures
      c.part_at-next.auto.store,
  l.1,
  l.2,
)
