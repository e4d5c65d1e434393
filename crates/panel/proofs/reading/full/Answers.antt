use Prim.Native.Nat.{◌≤◌, ◌<◌, ◌*◌, ◌%◌, ◌^◌}
use mathlib.Core.Path.{◌≡◌, ◌∙◌}
use native.Mathlib.Nat.{one-mul}
use native.Mathlib.Omega.{arith}
use lib.Dec.{lit<}
use lib.Pow.{pow_mono, pow_pos, shl_exact}
use Rattle.panel.proofs.reading.full.Goals as goal

-- the shift loses nothing

shifted : (c : goal.Start) → 1 * 2 ^ c.args.width % 2 ^ 32 ≡ 2 ^ c.args.width
shifted c = shl_exact 1 c.args.width 32 (lit< tt) (omega arith) ∙ one-mul _

pub returns : goal.returns
returns c = let p : 0 < 2 ^ c.args.width = pow_pos c.args.width in
    let m : 2 ^ c.args.width ≤ 2 ^ 24 = pow_mono c.requires in
    (omega (arith, shifted c), omega (arith, shifted c))
