use native.Mathlib.Omega.{arith}
use mathlib.Core.Path.{◌∙◌}
use Rattle.card.proofs.CopyLaws.{width_le, one-within, one_same, moved_copy}
use Rattle.card.proofs.block.fill.Goals as goal

pub move_element-requires : goal.move_element-requires
move_element-requires g c = let w = width_le _ c.requires.0 in (c.requires.0, c.requires.2, omega (arith, w))

pub move_each-requires : goal.move_each-requires
move_each-requires g c =
    let w = width_le _ c.requires.0 in (
      c.requires.0,
      omega arith,
      w,
      one-within _ _ _ w c.requires.2 _ c.move_element.ensures c.args.count,
      rw c.if-to_step.true at c.requires.3,
    )

pub move_each-requires-else-to_step : goal.move_each-requires-else-to_step
move_each-requires-else-to_step g c =
    let w = width_le _ c.requires.0 in
    (c.requires.0, omega arith, c.requires.1, one-within _ _ _ w c.requires.2 _ c.move_element.ensures c.args.count, c.requires.3)

pub returns-then-to_step : goal.returns-then-to_step
returns-then-to_step g c =
    let w = width_le _ c.requires.0 in
    rw c.if-to_step.true
    (c.move_each.ensures ∙ moved_copy _ _ _ _ _ _ _ _ _ (one_same _ _ _ w c.requires.2 _ c.move_element.ensures))

pub returns-else-to_step : goal.returns-else-to_step
returns-else-to_step g c =
    let w = width_le _ c.requires.0 in
    c.move_each-else-to_step.ensures ∙ moved_copy _ _ _ _ _ _ _ _ _ (one_same _ _ _ w c.requires.2 _ c.move_element.ensures)
