use Rattle.cue.proofs.PackerLaws.{agrees_at}
use Rattle.packet.proofs.ElementLaws.{scaled_le}
use Rattle.lbp16.proofs.SpaceLaws.{element_le}
use native.Mathlib.Omega.{arith}
use Prim.Native.Nat.{◌*◌, ◌≤◌}
use Rattle.cue.proofs.packer.agrees.Goals as goal

pub overflow_mul-next : goal.overflow_mul-next
overflow_mul-next c = let at_below : c.args.p.count * c.args.element ≤ 1020 = let h =
    c.requires.0.count in scaled_le _ _ (omega arith) (rw c.requires.1 (element_le _)) in
    let h = at_below in omega arith

pub overflow_add-next : goal.overflow_add-next
overflow_add-next c = let at_below : c.args.p.count * c.args.element ≤ 1020 = let h =
    c.requires.0.count in scaled_le _ _ (omega arith) (rw c.requires.1 (element_le _)) in
    let h = at_below in omega arith

pub returns : goal.returns
returns c = agrees_at _ _ _ c.requires.1
