use Rattle.packet.proofs.TableLaws.{area-4, area-5, area-6, area-7, area-8, area-9, area-10, area-11, area-12, area-none}
use Rattle.packet.proofs.refusal.area_rule.Goals as goal

pub returns-then-f : goal.returns-then-f
returns-then-f c p e = area-4 p _ _ _ _ _ c.requires.2 e _ c.requires.0 c.if-f.true

pub returns-then-is_absent : goal.returns-then-is_absent
returns-then-is_absent c p e = area-5 p _ _ _ _ _ c.requires.2 e _ c.requires.0 c.if-f.false c.if-is_absent.ensures

pub returns-then-f-row : goal.returns-then-f-row
returns-then-f-row c p e = area-6 p _ _ _ _ _ c.requires.2 e _ c.requires.0 c.if-f.false c.if-is_absent.ensures c.if-f-row.true

pub returns-then-f-eq0 : goal.returns-then-f-eq0
returns-then-f-eq0 c p e = area-7 p _ _ _ _ _ c.requires.2 e _ c.requires.0 c.if-f.false c.if-is_absent.ensures c.if-f-row.false c.if-f-eq0.true

pub returns-then-out_of_place : goal.returns-then-out_of_place
returns-then-out_of_place c p e =
    area-8 p _ _ _ _ _ c.requires.2 e _ c.requires.0 c.if-f.false c.if-is_absent.ensures c.if-f-row.false c.if-f-eq0.false
    c.if-out_of_place.ensures

pub returns-then-read_only : goal.returns-then-read_only
returns-then-read_only c p e =
    area-9 p _ _ _ _ _ c.requires.2 e _ c.requires.0 c.if-f.false c.if-is_absent.ensures c.if-f-row.false c.if-f-eq0.false
    c.if-out_of_place.ensures c.if-read_only.ensures

pub returns-then-f-row-2 : goal.returns-then-f-row-2
returns-then-f-row-2 c p e =
    area-10 p _ _ _ _ _ c.requires.2 e _ c.requires.0 c.if-f.false c.if-is_absent.ensures c.if-f-row.false c.if-f-eq0.false
    c.if-out_of_place.ensures c.if-read_only.ensures c.if-f-row-2.true

pub returns-then-rest-r : goal.returns-then-rest-r
returns-then-rest-r c p e =
    area-11 p _ _ _ _ _ c.requires.2 e _ c.requires.0 c.if-f.false c.if-is_absent.ensures c.if-f-row.false c.if-f-eq0.false
    c.if-out_of_place.ensures c.if-read_only.ensures c.if-f-row-2.false c.if-rest-r.true

pub returns-then-passes_limit : goal.returns-then-passes_limit
returns-then-passes_limit c p e =
    area-12 p _ _ _ _ _ c.requires.2 e _ c.requires.0 c.if-f.false c.if-is_absent.ensures c.if-f-row.false c.if-f-eq0.false
    c.if-out_of_place.ensures c.if-read_only.ensures c.if-f-row-2.false c.if-rest-r.false c.if-passes_limit.ensures

pub returns : goal.returns
returns c p e =
    area-none p _ _ _ _ _ c.requires.2 e _ c.requires.0 c.if-f.false c.if-is_absent.ensures c.if-f-row.false c.if-f-eq0.false
    c.if-out_of_place.ensures c.if-read_only.ensures c.if-f-row-2.false c.if-rest-r.false c.if-passes_limit.ensures
