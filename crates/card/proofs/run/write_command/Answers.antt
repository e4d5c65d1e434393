use mathlib.Core.Path.{◌∙◌}
use Rattle.card.proofs.CommandRunLaws.{write-asked, write_done}
use Rattle.card.proofs.CopyLaws.{width_le, within-one, moved-one}
use Rattle.card.proofs.run.write_command.Goals as goal

pub move_sized-requires : goal.move_sized-requires
move_sized-requires c = let p = c.requires in
    let q = write-asked _ _ _ p.0.passed _ (c.span_of-s.ensures _ _ p.0.reach) _ p.1 c.header_bytes-header.ensures.0 _ p.2 in
    let one = c.if-s-eq1.true in
    (q.width, within-one _ _ _ _ _ one q.lined, within-one _ _ _ _ _ one q.spread)

pub move_sized-requires-else-s-eq1 : goal.move_sized-requires-else-s-eq1
move_sized-requires-else-s-eq1 c = let p = c.requires in
    let q = write-asked _ _ _ p.0.passed _ (c.span_of-s.ensures _ _ p.0.reach) _ p.1 c.header_bytes-header.ensures.0 _ p.2 in
    (q.width, width_le _ q.width, q.step, q.lined, q.spread)

pub returns-then-s-eq1 : goal.returns-then-s-eq1
returns-then-s-eq1 c = let p = c.requires in
    write_done _ _ _ p.0.passed _ (c.span_of-s.ensures _ _ p.0.reach) _ p.1 c.header_bytes-header.ensures.0 _ _
    (c.move_sized.ensures ∙ moved-one _ _ _ _ _ _ _ _ c.if-s-eq1.true)

pub returns-else-s-eq1 : goal.returns-else-s-eq1
returns-else-s-eq1 c = let p = c.requires in
    write_done _ _ _ p.0.passed _ (c.span_of-s.ensures _ _ p.0.reach) _ p.1 c.header_bytes-header.ensures.0 _ _
    c.move_sized-else-s-eq1.ensures
