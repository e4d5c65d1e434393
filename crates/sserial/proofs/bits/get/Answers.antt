use Prim.Native.Nat.{◌+◌, ◌*◌, ◌<◌, ◌≤◌, ◌^◌}
use native.Mathlib.Omega.{arith}
use lib.Pow.{pow_mono}
use Rattle.sserial.proofs.BitLaws.{got_more, got_fits}
use Rattle.sserial.proofs.bits.get.Goals as goal

fits : (c : goal.After-power) → c.loop-done.bits + c.chunk_at.result * c.power.result < 2 ^ 64
fits c =
    let g = got_fits _ _ _ _ _ _ _ c.loop-done.invariant.1 c.chunk_at.ensures c.power.ensures in
    let w = c.within-n.ensures.0 in
    let m : 2 ^ (c.loop-done.done + c.within-n.result) ≤ 2 ^ 64 = pow_mono {j = 64} (omega arith) in
    omega arith

pub overflow_mul-bits : goal.overflow_mul-bits
overflow_mul-bits c = let h = fits c in record { fits = omega arith }

pub overflow_add-bits : goal.overflow_add-bits
overflow_add-bits c = let h = fits c in record { fits = omega arith }

pub loop-done-preserved : goal.loop-done-preserved
loop-done-preserved c = let w = c.within-n.ensures.0 in
    (omega arith, got_more _ _ _ _ _ _ _ c.loop-done.invariant.1 c.chunk_at.ensures c.power.ensures)
