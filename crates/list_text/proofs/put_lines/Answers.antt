use Prim.Native.Nat.{◌≤◌}
use native.Mathlib.Omega.{arith}
use lib.ListN.{length, length-take, length-drop}
use Rattle.list_text.proofs.WriteLaws.{putting_first, putting_last, putting_there, putting_whole, putting_some, putting_next}
use Rattle.list_text.proofs.put_lines.Goals as goal

pub loop-rest-init : goal.loop-rest-init
loop-rest-init c = let p = c.requires in putting_first _ _ p.0 p.1

pub put_line-at-requires : goal.put_line-at-requires
put_line-at-requires c = (c.record_at-r.ensures, putting_there c.loop-rest.invariant c.loop-rest-test.true _ c.record_at-r.ensures)

pub slice_bounds-rest-count : goal.slice_bounds-rest-count
slice_bounds-rest-count c = let at_whole : c.record_bytes-n.result ≤ length c.loop-rest.rest.now =
    putting_whole c.loop-rest.invariant c.loop-rest-test.true _ c.record_at-r.ensures _ c.record_bytes-n.ensures.0 in
    at_whole

pub slice_bounds-rest-start : goal.slice_bounds-rest-start
slice_bounds-rest-start c = let at_whole : c.record_bytes-n.result ≤ length c.loop-rest.rest.now =
    putting_whole c.loop-rest.invariant c.loop-rest-test.true _ c.record_at-r.ensures _ c.record_bytes-n.ensures.0 in
    at_whole

pub loop-rest-smaller : goal.loop-rest-smaller
loop-rest-smaller c = let at_whole : c.record_bytes-n.result ≤ length c.loop-rest.rest.now =
    putting_whole c.loop-rest.invariant c.loop-rest-test.true _ c.record_at-r.ensures _ c.record_bytes-n.ensures.0 in
    let some = putting_some c.loop-rest.invariant c.loop-rest-test.true _ c.record_at-r.ensures _ c.record_bytes-n.ensures.0 in
    simp (length-take, length-drop) (omega arith)

pub loop-rest-preserved : goal.loop-rest-preserved
loop-rest-preserved c = putting_next c.loop-rest.invariant c.loop-rest-test.true _ c.record_at-r.ensures _ c.record_bytes-n.ensures.0 _ _
    c.put_line-at.ensures

pub shape_of-out : goal.shape_of-out
shape_of-out c = c.loop-rest.invariant.size

pub returns : goal.returns
returns c = putting_last c.loop-rest.invariant c.loop-rest-test.false
