use native.Mathlib.Omega.{arith}
use borrow.Author.Rules.{rules}
use Rattle.salvage.proofs.LoopLaws.{held-within, roomy, some_bytes, behind-within}
use Rattle.salvage.proofs.WriteLaws.{writing-first, writing-next, writing-last, room-same, log-same}
use Rattle.salvage.proofs.WriteLaws.{record_room, entry-room}
use Rattle.salvage.proofs.write.write.Goals as goal

-- a lemma's facts, as the clauses have names
named2 : {A B R : Type 0} → (A → B → R) → A × B → R
named2 f h = f h.0 h.1

pub loop-at-init : goal.loop-at-init
loop-at-init c = writing-first _ _ _ _ c.none-c.ensures

pub slice_bounds-span_at-count : goal.slice_bounds-span_at-count
slice_bounds-span_at-count c = held-within c.loop-at.invariant.counting.held

pub slice_bounds-span_at-start : goal.slice_bounds-span_at-start
slice_bounds-span_at-start c = let h = held-within c.loop-at.invariant.counting.held in search rules

pub slice_bounds-span_at-end : goal.slice_bounds-span_at-end
slice_bounds-span_at-end c = let h = held-within c.loop-at.invariant.counting.held in search rules

pub slice_bounds-put_record-count : goal.slice_bounds-put_record-count
slice_bounds-put_record-count c = held-within c.loop-at.invariant.counting.held

pub slice_bounds-put_record-start : goal.slice_bounds-put_record-start
slice_bounds-put_record-start c = let h = held-within c.loop-at.invariant.counting.held in search rules

pub slice_bounds-put_record-end : goal.slice_bounds-put_record-end
slice_bounds-put_record-end c = let h = held-within c.loop-at.invariant.counting.held in search rules

pub put_record-requires : goal.put_record-requires
put_record-requires c = record_room _ _ _ _ _ _ _
    c.requires
    c.loop-at.invariant _
    c.loop-at-test.true
    c.span_at-s.ensures

pub put_entry-requires : goal.put_entry-requires
put_entry-requires c = entry-room _ _ _ _ _ _ _
    c.requires
    c.loop-at.invariant _
    c.loop-at-test.true
    c.span_at-s.ensures

pub tallied-c-requires : goal.tallied-c-requires
tallied-c-requires c = roomy _ _ _ _ _
    c.loop-at.invariant.counting
    c.loop-at-test.true
    c.span_at-s.ensures
    (omega arith)

pub overflow_add-at : goal.overflow_add-at
overflow_add-at c = let h = behind-within _ _ _ _ _ c.loop-at.invariant.counting c.loop-at-test.true c.span_at-s.ensures in
    omega arith

pub loop-at-smaller : goal.loop-at-smaller
loop-at-smaller c = let h = behind-within _ _ _ _ _ c.loop-at.invariant.counting c.loop-at-test.true c.span_at-s.ensures in
    let k = some_bytes _ _ _ _ _ c.loop-at.invariant.counting c.loop-at-test.true c.span_at-s.ensures in
    omega arith

pub loop-at-preserved : goal.loop-at-preserved
loop-at-preserved c = writing-next _ _ _ _ _ _ _
    c.requires
    c.loop-at.invariant _
    c.loop-at-test.true
    c.span_at-s.ensures _ _ _
    c.tallied-c.ensures
    c.put_record.ensures
    c.put_entry.ensures

pub shape_of-out : goal.shape_of-out
shape_of-out c = room-same _ _ _ _ _ _ _ c.requires c.loop-at.invariant

pub shape_of-log : goal.shape_of-log
shape_of-log c = log-same _ _ _ _ _ _ _ c.requires c.loop-at.invariant

pub returns : goal.returns
returns c = named2 (λ h0 h1. record { out_after = h0; log_after = h1 }) (writing-last _ _ _ _ _ _ _ c.requires c.loop-at.invariant (omega arith))
