use native.Mathlib.Omega.{arith}
use Rattle.packet.proofs.ElementLaws.{scaled_le, row_le}
use mathlib.Core.Path.{ap}
use Prim.Native.Nat.{◌*◌, ◌≤◌}
use Rattle.packet.proofs.command.element_bytes.Goals as goal

below : (c : goal.After-struct_known-2-1) → c.args.f.count * c.row_of-row.result.element ≤ 1020
below c =
    scaled_le _ _ (omega arith) (rw c.row_of-row.ensures (row_le _))

pub overflow_mul-result : goal.overflow_mul-result
overflow_mul-result c = let h = below c in omega arith

pub returns : goal.returns
returns c = (ap (λ r. c.args.f.count * r.element) c.row_of-row.ensures, below c)
