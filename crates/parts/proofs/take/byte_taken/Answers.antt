use native.Mathlib.Omega.{arith}
use Rattle.lbp16.proofs.RuleLaws.{rule_number_range}
use Rattle.cue.proofs.ReadingLaws.{none-refuses}
use Rattle.parts.proofs.ByteLaws.{shown-fits, shown-length, byte-waits, byte-faults, byte_record}
use Rattle.parts.proofs.take.byte_taken.Goals as goal

pub slice_bounds-bytes-end : goal.slice_bounds-bytes-end
slice_bounds-bytes-end c = shown-fits _ _ c.requires.0

pub slice_bounds-decided_at-end : goal.slice_bounds-decided_at-end
slice_bounds-decided_at-end c = shown-length _ _ c.requires.0

pub returns-then-shown-decided_at : goal.returns-then-shown-decided_at
returns-then-shown-decided_at c = let p = c.requires in
    let d = c.decided_at.ensures in
    byte-waits _ _ p.0 _ _ p.1 _ d.0 p.2 d.1 c.if-shown-decided_at.true

pub slice_bounds-bytes-end-2 : goal.slice_bounds-bytes-end-2
slice_bounds-bytes-end-2 c = shown-fits _ _ c.requires.0

pub slice_bounds-record_refusal-end : goal.slice_bounds-record_refusal-end
slice_bounds-record_refusal-end c = shown-length _ _ c.requires.0

pub returns-in-Err : goal.returns-in-Err
returns-in-Err c =
    let p = c.requires in
    let some = rule_number_range c.in-Err.rule in
    byte-faults _ _ p.0 _ _ p.1 _ c.decided_at.ensures.0 c.if-shown-decided_at.false _
    c.in-Err.ensures (λ z. omega arith) _ (rw c.number.ensures at c.stopped.ensures)

pub slice_bounds-bytes-end-3 : goal.slice_bounds-bytes-end-3
slice_bounds-bytes-end-3 c = shown-fits _ _ c.requires.0

pub slice_bounds-record_taken-end : goal.slice_bounds-record_taken-end
slice_bounds-record_taken-end c = shown-length _ _ c.requires.0

pub returns : goal.returns
returns c = let p = c.requires in
    byte_record _ _ p.0 _ _ p.1 _ c.decided_at.ensures.0 c.if-shown-decided_at.false _ c.record_refusal.ensures
    (none-refuses _ c.in_default.not-Err) _ _ _ _ c.record_taken.ensures
