use mathlib.Core.Path.{ap}
use Prim.Native.Nat.{◌*◌, ◌≤◌}
use native.Mathlib.Omega.{arith}
use native.Mathlib.Nat.{le_trans}
use Rattle.packet.proofs.ElementLaws.{row_le}
use Rattle.packet.proofs.ElementLaws.{scaled_le}
use Rattle.packet.proofs.CommandLaws.{stride_le}
use Rattle.packet.proofs.command.moved_bytes.Goals as goal

below : (c : goal.After-stride_of) → c.args.f.count * c.stride_of.result ≤ 1020
below c =
    scaled_le _ _ (omega arith) (rw c.stride_of.ensures (le_trans (stride_le _) (row_le _)))

pub overflow_mul-result : goal.overflow_mul-result
overflow_mul-result c = let h = below c in omega arith

pub returns : goal.returns
returns c = (ap (λ r. c.args.f.count * r) c.stride_of.ensures, below c)
