use native.Mathlib.Omega.{arith}
use Prim.Native.Nat.{ℕ}
use mathlib.Core.Path.{ap, ◌∙◌}
use Rattle.lbp16.specs.Pointer.{advanced}
use Rattle.packet.proofs.ElementLaws.{scaled_le, row_le}
use Rattle.packet.proofs.ReachLaws.{reach-is}
use Rattle.packet.proofs.command.reach_by.Goals as goal

pub overflow_mul-elements : goal.overflow_mul-elements
overflow_mul-elements c = let h = scaled_le c.args.f.count c.args.row.element (omega arith) (rw c.requires.0 (row_le _)) in
    omega arith

pub returns : goal.returns
returns c = reach-is
    c.args.f
    c.args.row _ _ _ _ _ _
    _
    c.requires.0
    c.requires.1
    c.header_bytes.ensures.0
    c.bytes_if-carried.ensures
    c.bytes_if-answered.ensures
    c.bytes_if-moved.ensures
    (c.advance-next.ensures
    ∙ ap
    (λ (n : ℕ). advanced n c.bytes_if-moved.result)
    c.new.ensures)
