use mathlib.Core.Path.{◌∙◌}
use native.Mathlib.Omega.{arith}
use Rattle.card.proofs.CopyLaws.{moved_none, from-within, to-within, last-is, filled_is, block-is}
use Rattle.card.proofs.block.move_elements.Goals as goal

pub returns-then-count-eq0 : goal.returns-then-count-eq0
returns-then-count-eq0 g c = moved_none _ _ _ _ _ _ _ _ c.if-count-eq0.true

pub overflow_mul-last : goal.overflow_mul-last
overflow_mul-last g c = let a = c.args in
    let some = c.if-count-eq0.false in
    let l = (last-is a.count g.row.W a.src.now a.from a.from_step a.dst.now a.to a.to_step
    some c.requires.3 c.requires.4).0 in
    omega (arith, c.well_formed)

pub overflow_add-last : goal.overflow_add-last
overflow_add-last g c = let a = c.args in
    let some = c.if-count-eq0.false in
    let l = (last-is a.count g.row.W a.src.now a.from a.from_step a.dst.now a.to a.to_step
    some c.requires.3 c.requires.4).0 in
    omega (arith, c.well_formed)

pub move_element-requires : goal.move_element-requires
move_element-requires g c = let a = c.args in
    let some = c.if-count-eq0.false in (
      c.requires.0,
      (last-is a.count g.row.W a.src.now a.from a.from_step a.dst.now a.to a.to_step
          some c.requires.3 c.requires.4).0,
      to-within a.count g.row.W a.src.now a.from a.from_step a.dst.now a.to a.to_step
          some c.requires.3 c.requires.4,
    )

pub fill-requires : goal.fill-requires
fill-requires g c = let a = c.args in
    let some = c.if-count-eq0.false in (
      c.requires.0,
      c.requires.2,
      from-within a.count g.row.W a.src.now a.from a.from_step a.dst.now a.to a.to_step
          some c.requires.3 c.requires.4,
      c.requires.4,
    )

pub copy-requires : goal.copy-requires
copy-requires g c = let a = c.args in
    let some = c.if-count-eq0.false in
    let l = block-is a.count g.row.W a.src.now a.from a.from_step a.dst.now a.to a.to_step
    some c.requires.3 c.requires.4 c.if-from_step-to_step.true in
    (c.requires.0, l.0, l.1)

pub returns-then-to_step-eq0 : goal.returns-then-to_step-eq0
returns-then-to_step-eq0 g c = let a = c.args in
    let some = c.if-count-eq0.false in
    c.move_element.ensures
    ∙ (last-is a.count g.row.W a.src.now a.from a.from_step a.dst.now a.to a.to_step
    some c.requires.3 c.requires.4).1 c.if-to_step-eq0.true

pub returns-then-from_step-eq0 : goal.returns-then-from_step-eq0
returns-then-from_step-eq0 g c = let a = c.args in
    let some = c.if-count-eq0.false in
    c.fill.ensures
    ∙ filled_is a.count g.row.W a.src.now a.from a.from_step a.dst.now a.to a.to_step
    some c.requires.3 c.requires.4 c.if-from_step-eq0.true

pub returns-then-from_step-to_step : goal.returns-then-from_step-to_step
returns-then-from_step-to_step g c = let a = c.args in
    let some = c.if-count-eq0.false in
    let l = block-is a.count g.row.W a.src.now a.from a.from_step a.dst.now a.to a.to_step
    some c.requires.3 c.requires.4 c.if-from_step-to_step.true in
    c.copy.ensures ∙ l.2
