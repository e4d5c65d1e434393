use mathlib.Core.Path.{◌∙◌}
use Rattle.card.proofs.CopyLaws.{width_le, within-one, moved-one}
use Rattle.card.proofs.run.read_span.Goals as goal

pub move_sized-requires : goal.move_sized-requires
move_sized-requires c = let p = c.requires in
    let one = c.if-s-eq1.true in
    (p.1, within-one _ _ _ _ _ one p.2, within-one _ _ _ _ _ one p.3)

pub move_sized-requires-else-s-eq1 : goal.move_sized-requires-else-s-eq1
move_sized-requires-else-s-eq1 c = let p = c.requires in (p.1, p.0, width_le _ p.1, p.2, p.3)

pub returns-then-s-eq1 : goal.returns-then-s-eq1
returns-then-s-eq1 c = c.move_sized.ensures ∙ moved-one _ _ _ _ _ _ _ _ c.if-s-eq1.true

pub returns-else-s-eq1 : goal.returns-else-s-eq1
returns-else-s-eq1 c = c.move_sized-else-s-eq1.ensures
