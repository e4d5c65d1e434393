use native.Mathlib.Omega.{arith}
use Prim.Native.Nat.{◌≤◌}
use Rattle.lbp16.proofs.SpaceLaws.{element_le}
use Rattle.cue.proofs.PackerLaws.{carried-counted}
use Rattle.cue.proofs.packer.carried.Goals as goal

pub returns : goal.returns
returns c = let s = c.row_of.ensures in
    let h = c.counted.ensures.1 in
    let k : c.row_of.result.element ≤ 4 = rw s (element_le _) in
    (rw (c.counted.ensures.0, s) (carried-counted _), omega arith)
