use mathlib.Core.Path.{refl}
use Rattle.card.proofs.ElementLaws.{narrow_width}
use Rattle.card.proofs.element.move_sized.Goals as goal

pub move_element-requires : goal.move_element-requires
move_element-requires c = let w = c.if-element-eq4.true in (refl, rw w at c.requires.1, rw w at c.requires.2)

pub move_element-requires-else-element-eq4 : goal.move_element-requires-else-element-eq4
move_element-requires-else-element-eq4 c =
    let w = narrow_width _ c.requires.0 c.if-element-eq4.false in (refl, rw w at c.requires.1, rw w at c.requires.2)

pub returns-then-element-eq4 : goal.returns-then-element-eq4
returns-then-element-eq4 c = rw c.if-element-eq4.true c.move_element.ensures

pub returns-else-element-eq4 : goal.returns-else-element-eq4
returns-else-element-eq4 c = rw (narrow_width _ c.requires.0 c.if-element-eq4.false) c.move_element-else-element-eq4.ensures
