use mathlib.Core.Path.{refl, ◌∙◌}
use Prim.Native.Nat.{◌+◌, ◌-◌, ◌*◌, ◌/◌, ◌≤◌}
use lib.ListN.{length}
use native.Mathlib.Omega.{arith}
use Rattle.card.proofs.CopyLaws.{within_block, moved-block, pairs-even, pairs-odd}
use Rattle.card.proofs.ElementLaws.{narrow_width}
use Rattle.card.proofs.block.copy.Goals as goal

pub move_each-requires : goal.move_each-requires
move_each-requires g c =
    let w = c.if-this-eq4.true in
    (refl, omega arith, omega arith, within_block _ _ 4 _ (rw w at c.requires.1), within_block _ _ 4 _ (rw w at c.requires.2))

pub move_each-requires-else-this-eq4 : goal.move_each-requires-else-this-eq4
move_each-requires-else-this-eq4 g c = let a = c.args in
    let w = narrow_width _ c.requires.0 c.if-this-eq4.false in
    let p = rw w at c.requires.1 in
    let q = rw w at c.requires.2 in
    let from : a.from + a.count / 2 * 4 ≤ length a.src.now = omega arith in
    let to : a.to + a.count / 2 * 4 ≤ length a.dst.now = omega arith in
    (refl, omega arith, omega arith, within_block _ _ 4 _ from, within_block _ _ 4 _ to)

pub move_element-requires : goal.move_element-requires
move_element-requires g c = let a = c.args in
    let w = narrow_width _ c.requires.0 c.if-this-eq4.false in
    let p = rw w at c.requires.1 in
    let q = rw w at c.requires.2 in
    let from : a.from + (a.count - 1) * 2 + 2 ≤ length a.src.now = omega arith in
    let to : a.to + (a.count - 1) * 2 + 2 ≤ length c.move_each-else-this-eq4.new.dst = omega (arith, c.move_each-else-this-eq4.auto.dst) in
    (refl, from, to)

pub returns-then-this-eq4 : goal.returns-then-this-eq4
returns-then-this-eq4 g c =
    let w = c.if-this-eq4.true in rw w (c.move_each.ensures ∙ moved-block _ 4 _ _ _ _ (rw w at c.requires.1))

pub returns-then-count-eq1 : goal.returns-then-count-eq1
returns-then-count-eq1 g c = let a = c.args in
    let w = narrow_width _ c.requires.0 c.if-this-eq4.false in
    let words = c.move_each-else-this-eq4.ensures in
    rw w
    ((rw words at c.move_element.ensures)
    ∙ pairs-odd a.count a.src.now a.from a.dst.now a.to (rw w at c.requires.1) c.if-count-eq1.true)

pub returns-else-count-eq1 : goal.returns-else-count-eq1
returns-else-count-eq1 g c = let a = c.args in
    let w = narrow_width _ c.requires.0 c.if-this-eq4.false in
    rw w
    (c.move_each-else-this-eq4.ensures
    ∙ pairs-even a.count a.src.now a.from a.dst.now a.to (rw w at c.requires.1) c.if-count-eq1.false)
