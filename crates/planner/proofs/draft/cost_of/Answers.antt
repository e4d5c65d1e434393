use Prim.Native.Nat.{◌≤◌}
use native.Mathlib.Omega.{arith}
use Rattle.lbp16.proofs.SpaceLaws.{element_le}
use Rattle.planner.proofs.draft.cost_of.Goals as goal

pub returns : goal.returns
returns c = let row = c.row_of-row in
    let small : row.result.element ≤ 4 = rw row.ensures (element_le _) in
    let carried = c.only.ensures in
    let answered = c.only-2.ensures in
    record { element = small; carried = omega arith; answered = omega arith }
