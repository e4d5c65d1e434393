use mathlib.Core.Path.{refl}
use Rattle.card.proofs.ElementLaws.{narrow_width}
use Rattle.card.proofs.block.move_sized.Goals as goal

pub move_elements-requires : goal.move_elements-requires
move_elements-requires c =
    let p = c.requires in
    let w = c.if-element-eq4.true in
    (refl, p.1, p.2, rw w at p.3, rw w at p.4)

pub move_elements-requires-else-element-eq4 : goal.move_elements-requires-else-element-eq4
move_elements-requires-else-element-eq4 c =
    let p = c.requires in
    let w = narrow_width _ p.0 c.if-element-eq4.false in
    (refl, p.1, p.2, rw w at p.3, rw w at p.4)

pub returns-then-element-eq4 : goal.returns-then-element-eq4
returns-then-element-eq4 c = rw c.if-element-eq4.true c.move_elements.ensures

pub returns-else-element-eq4 : goal.returns-else-element-eq4
returns-else-element-eq4 c = rw (narrow_width _ c.requires.0 c.if-element-eq4.false) c.move_elements-else-element-eq4.ensures
