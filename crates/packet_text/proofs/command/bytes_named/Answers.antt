use native.Mathlib.Nat.{mul-le-mul}
use native.Mathlib.Omega.{arith}
use Prim.Native.Nat.{◌*◌, ◌≤◌}
use Rattle.packet_text.proofs.SizeLaws.{element-few, write-names, read_names}
use Rattle.packet_text.proofs.command.bytes_named.Goals as goal

pub overflow_mul-result : goal.overflow_mul-result
overflow_mul-result c = let at_below : c.args.f.count * c.element_bytes.result ≤ 2040 =
    mul-le-mul {n₂ = 255} {m₂ = 8} (omega arith) (rw c.element_bytes.ensures (element-few _)) in
    omega arith

pub overflow_add-result : goal.overflow_add-result
overflow_add-result c = let at_below : c.args.f.count * c.element_bytes.result ≤ 2040 =
    mul-le-mul {n₂ = 255} {m₂ = 8} (omega arith) (rw c.element_bytes.ensures (element-few _)) in
    omega arith

pub returns-then-f : goal.returns-then-f
returns-then-f c = write-names _ _ _ c.if-f.true c.header_bytes-header.ensures.0 c.element_bytes.ensures

pub returns : goal.returns
returns c = read_names _ _ c.if-f.false c.header_bytes-header.ensures.0
