use Prim.Native.Nat.{◌≤◌}
use native.Mathlib.Omega.{arith}
use lib.ListN.{length, length-take, length-drop}
use Rattle.packet_text.proofs.LayingLaws.{laying_begin, laying_end, laying_plain, laying_whole, laying_some, laying_fits, laying_next}
use Rattle.packet_text.proofs.listing.lay_lines.Goals as goal

pub loop-rest-init : goal.loop-rest-init
loop-rest-init c = let p = c.requires in laying_begin _ _ _ p.0 p.1

pub lay_line-n-requires : goal.lay_line-n-requires
lay_line-n-requires c = laying_plain c.loop-rest.invariant c.loop-rest-test.true _ c.fields_at-f.ensures

pub overflow_add-bytes : goal.overflow_add-bytes
overflow_add-bytes c = let s = c.loop-rest.invariant in
    let l = c.lay_line-n.ensures in
    let fits = laying_fits s c.loop-rest-test.true _ c.fields_at-f.ensures _ _ c.address_used-used.ensures _ l.0 l.1 in
    omega arith

pub slice_bounds-rest-count : goal.slice_bounds-rest-count
slice_bounds-rest-count c = let at_whole : c.command_bytes-k.result ≤ length c.loop-rest.rest.now =
    laying_whole c.loop-rest.invariant c.loop-rest-test.true _ c.fields_at-f.ensures _ c.command_bytes-k.ensures in
    at_whole

pub slice_bounds-rest-start : goal.slice_bounds-rest-start
slice_bounds-rest-start c = let at_whole : c.command_bytes-k.result ≤ length c.loop-rest.rest.now =
    laying_whole c.loop-rest.invariant c.loop-rest-test.true _ c.fields_at-f.ensures _ c.command_bytes-k.ensures in
    at_whole

pub loop-rest-smaller : goal.loop-rest-smaller
loop-rest-smaller c = let at_whole : c.command_bytes-k.result ≤ length c.loop-rest.rest.now =
    laying_whole c.loop-rest.invariant c.loop-rest-test.true _ c.fields_at-f.ensures _ c.command_bytes-k.ensures in
    let some = laying_some c.loop-rest.invariant c.loop-rest-test.true _ c.fields_at-f.ensures _ c.command_bytes-k.ensures in
    simp (length-take, length-drop) (omega arith)

pub loop-rest-preserved : goal.loop-rest-preserved
loop-rest-preserved c = let l = c.lay_line-n.ensures in
    laying_next c.loop-rest.invariant c.loop-rest-test.true _ c.fields_at-f.ensures _ c.command_bytes-k.ensures _ _
    c.address_used-used.ensures _
    l.0
    l.1
    _
    c.pointers_after-pointers.ensures

pub returns : goal.returns
returns c = laying_end c.loop-rest.invariant c.loop-rest-test.false
