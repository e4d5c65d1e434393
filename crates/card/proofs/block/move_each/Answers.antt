use Prim.Native.Nat.{◌+◌, ◌-◌}
use mathlib.Core.Path.{◌≡◌, refl}
use native.Mathlib.Nat.{sub-zero}
use native.Mathlib.Omega.{arith}
use Rattle.card.proofs.BlockLaws.{moving_now, moving_next, moving_end}
use Rattle.card.proofs.block.move_each.Goals as goal

pub loop-init : goal.loop-init
loop-init g c =
    let p = c.requires in
    rw sub-zero (record { fs_le = p.1; ts_le = p.2; inside = p.3; room = p.4; same = refl; kept = refl })

pub move_element-requires : goal.move_element-requires
move_element-requires g c = let m = moving_now _ c.loop.invariant (omega arith) in (c.requires.0, m.0, m.1)

pub overflow_add-i : goal.overflow_add-i
overflow_add-i g c = let l = c.loop.invariant in
    let m = moving_now _ l (omega arith) in
    let h = l.fs_le in
    omega (arith, c.well_formed)

pub overflow_add-j : goal.overflow_add-j
overflow_add-j g c = let l = c.loop.invariant in
    let m = moving_now _ l (omega arith) in
    let h = l.ts_le in
    let k = l.kept in
    omega (arith, c.well_formed)

pub loop-preserved : goal.loop-preserved
loop-preserved g c =
    let e : c.args.count - (c.loop.counter + 1) ≡ c.args.count - c.loop.counter - 1 = omega arith in
    rw e (moving_next _ c.loop.invariant (omega arith) _ c.move_element.ensures)

pub shape_of-dst : goal.shape_of-dst
shape_of-dst g c = c.loop.invariant.kept

pub returns : goal.returns
returns g c = moving_end _ c.loop.invariant (omega arith)
