use mathlib.Core.Path.{sym, ◌∙◌}
use Rattle.card.proofs.CommandRunLaws.{plain-pointer, from_area, from-store, read_asked, read_done}
use Rattle.card.proofs.run.read_command.Goals as goal

pub read_span-requires : goal.read_span-requires
read_span-requires c = let p = c.requires in
    let q =
    from_area _ _ _
    c.args.store.now _ _
    (sym c.is_info.ensures
    ∙ c.if-is_info.true)
    (c.pointer_in.ensures
    ∙ plain-pointer _ _ _ c.slot_of-slot.ensures)
    c.area_bytes-area.ensures in
    let a =
    read_asked _ _ _
    p.0.passed _
    (c.span_of-s.ensures _ _ p.0.reach) _ _
    c.args.tail.now
    p.1
    p.2
    p.3
    q in
    (a.step, a.width, a.spread, a.lined)

pub read_span-requires-else-is_info : goal.read_span-requires-else-is_info
read_span-requires-else-is_info c = let p = c.requires in
    let q = from-store _ _ _ c.args.store.now (sym c.is_info.ensures ∙ c.if-is_info.false) in
    let a = read_asked _ _ _ p.0.passed _ (c.span_of-s.ensures _ _ p.0.reach) _ _ c.args.tail.now p.1 p.2 p.3 q in
    (a.step, a.width, a.spread, a.lined)

pub returns-then-is_info : goal.returns-then-is_info
returns-then-is_info c = let p = c.requires in
    let q =
    from_area _ _ _
    c.args.store.now _ _
    (sym c.is_info.ensures
    ∙ c.if-is_info.true)
    (c.pointer_in.ensures
    ∙ plain-pointer _ _ _ c.slot_of-slot.ensures)
    c.area_bytes-area.ensures in
    read_done _ _ _
    p.0.passed _
    (c.span_of-s.ensures _ _
    p.0.reach) _ _ _
    p.1
    p.2
    p.3
    q _
    c.read_span.ensures

pub returns-else-is_info : goal.returns-else-is_info
returns-else-is_info c = let p = c.requires in
    let q =
    from-store _ _ _
    c.args.store.now
    (sym c.is_info.ensures
    ∙ c.if-is_info.false) in
    read_done _ _ _
    p.0.passed _
    (c.span_of-s.ensures _ _ p.0.reach) _ _ _
    p.1
    p.2
    p.3
    q _
    c.read_span-else-is_info.ensures
