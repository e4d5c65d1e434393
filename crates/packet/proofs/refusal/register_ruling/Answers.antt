use mathlib.Core.Path.{◌∙◌}
use Rattle.packet.proofs.ReachLaws.{registers-row, registers-slot, reach-found, ruled-with}
use Rattle.packet.proofs.refusal.register_ruling.Goals as goal

pub reach_by-reach-requires : goal.reach_by-reach-requires
reach_by-reach-requires c = (c.row_of-row.ensures ∙ registers-row _ c.requires.1, registers-slot _ c.requires.1)

pub register_rule-rules-requires : goal.register_rule-rules-requires
register_rule-rules-requires c = let p = c.requires in (c.row_of-row.ensures ∙ registers-row _ p.1, p.0, p.1, p.2)

pub returns : goal.returns
returns c o = ruled-with _
    (reach-found _ _ _ _ _ _ _
    (registers-slot _ c.requires.1)
    c.pointer_in.ensures
    c.address_in-used.ensures
    c.reach_by-reach.ensures)
    (c.register_rule-rules.ensures _ o)
