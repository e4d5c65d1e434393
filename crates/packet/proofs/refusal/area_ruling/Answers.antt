use Rattle.packet.proofs.ReachLaws.{slot_is, reach-found, ruled-with}
use Rattle.packet.proofs.refusal.area_ruling.Goals as goal

pub reach_by-reach-requires : goal.reach_by-reach-requires
reach_by-reach-requires c = (c.row_of-row.ensures, slot_is _ _ _ c.is_info.ensures c.slot_of-slot.ensures)

pub returns : goal.returns
returns c = ruled-with _
    (reach-found _ _ _ _ _ _ _
    (slot_is _ _ _
    c.is_info.ensures
    c.slot_of-slot.ensures)
    c.pointer_in.ensures
    c.address_in-used.ensures c.reach_by-reach.ensures)
    (c.area_rule-rules.ensures _)
