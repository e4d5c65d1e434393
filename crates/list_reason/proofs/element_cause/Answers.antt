use Rattle.std.proofs.Common.{◌≤◌, arith, refl}
use borrow.Author.Tests.{ne_eqb, eq-eqb, lt-ltb, le-ltb}
use Rattle.lbp16.proofs.SpaceLaws.{element_nonzero, element_le}
use Rattle.list_reason.proofs.CauseLaws.{element-first}
use Rattle.list_reason.proofs.element_cause.Goals as goal

pub overflow_add-past_end : goal.overflow_add-past_end
overflow_add-past_end c = let h : c.row_of-row.result.element ≤ 4 = rw c.row_of-row.ensures (element_le _) in omega arith

pub nonzero_rem-misaligned : goal.nonzero_rem-misaligned
nonzero_rem-misaligned c = rw c.row_of-row.ensures (element_nonzero _)

pub returns-then-is_absent : goal.returns-then-is_absent
returns-then-is_absent c =
    rw (element-first, ← c.row_of-row.ensures, ← c.is_absent.ensures, c.if-is_absent.true) refl

pub returns-then-misaligned : goal.returns-then-misaligned
returns-then-misaligned c =
    rw (element-first, ← c.row_of-row.ensures, ← c.is_absent.ensures, c.if-is_absent.false, ne_eqb _ 0 c.if-misaligned.true) refl

pub returns-then-past_end : goal.returns-then-past_end
returns-then-past_end c =
    rw (element-first, ← c.row_of-row.ensures, ← c.is_absent.ensures, c.if-is_absent.false, eq-eqb _ 0 c.if-misaligned.false, lt-ltb _ _ c.if-past_end.true) refl

pub returns-then-barred : goal.returns-then-barred
returns-then-barred c =
    rw (element-first, ← c.row_of-row.ensures, ← c.is_absent.ensures, c.if-is_absent.false, eq-eqb _ 0 c.if-misaligned.false, le-ltb _ _ c.if-past_end.false, c.if-barred.true) refl

pub returns-then-unlock : goal.returns-then-unlock
returns-then-unlock c =
    rw (element-first, ← c.row_of-row.ensures, ← c.is_absent.ensures, c.if-is_absent.false, eq-eqb _ 0 c.if-misaligned.false, le-ltb _ _ c.if-past_end.false, c.if-barred.false, c.if-unlock.true) refl

pub returns-then-count : goal.returns-then-count
returns-then-count c =
    rw (element-first, ← c.row_of-row.ensures, ← c.is_absent.ensures, c.if-is_absent.false, eq-eqb _ 0 c.if-misaligned.false, le-ltb _ _ c.if-past_end.false, c.if-barred.false, c.if-unlock.false, c.if-count.true) refl

pub returns : goal.returns
returns c =
    rw (element-first, ← c.row_of-row.ensures, ← c.is_absent.ensures, c.if-is_absent.false, eq-eqb _ 0 c.if-misaligned.false, le-ltb _ _ c.if-past_end.false, c.if-barred.false, c.if-unlock.false, c.if-count.false) refl
