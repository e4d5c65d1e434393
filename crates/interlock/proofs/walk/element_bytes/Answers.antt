use Prim.Native.Nat.{◌*◌, ◌≤◌}
use mathlib.Core.Path.{refl}
use native.Mathlib.Omega.{arith}
use Rattle.packet.specs.Command.{row_of}
use Rattle.packet.proofs.ElementLaws.{scaled_le, row_le}
use Rattle.interlock.proofs.walk.element_bytes.Goals as goal

pub overflow_mul-result : goal.overflow_mul-result
overflow_mul-result c = let f = c.args.f in
    let row = c.row_of-row.ensures in
    let h : f.count * (row_of f).element ≤ 1020 = scaled_le f.count (row_of f).element (omega arith) (row_le f) in
    rw row (omega arith)

pub returns : goal.returns
returns c = let f = c.args.f in
    rw c.row_of-row.ensures (refl, scaled_le f.count (row_of f).element (omega arith) (row_le f))
