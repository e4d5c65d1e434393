use Rattle.lbp16.proofs.SpaceLaws.{element_nonzero, element_le}
use Rattle.cue.proofs.ReadingLaws.{bad-element_is}
use native.Mathlib.Omega.{arith}
use Prim.Native.Nat.{◌≤◌}
use Rattle.cue.proofs.records.bad_element.Goals as goal

pub nonzero_rem-result : goal.nonzero_rem-result
nonzero_rem-result c = rw c.row_of-row.ensures (element_nonzero _)

pub overflow_add-result : goal.overflow_add-result
overflow_add-result c = let h : c.row_of-row.result.element ≤ 4 = rw c.row_of-row.ensures (element_le _) in omega arith

pub returns : goal.returns
returns c = simp
    (c.is_absent.ensures, c.row_of-row.ensures, c.record_at-r.ensures, bad-element_is)
