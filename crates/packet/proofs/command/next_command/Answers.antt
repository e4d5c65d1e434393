use mathlib.Core.Path.{sym, ◌∙◌}
use Rattle.packet.specs.Inside.{ForRegisters}
use Rattle.packet.proofs.ReachLaws.{registers-word, registers-row, registers-slot, slot_is, reach-found, next-is}
use Rattle.packet.proofs.command.next_command.Goals as goal

pub reach_by-reach-requires : goal.reach_by-reach-requires
reach_by-reach-requires c = let at_plain_word : ForRegisters c.fields_of-fields.result = registers-word _ _
    c.fields_of-fields.ensures
    (sym c.for_registers.ensures ∙ c.if-for_registers.true) in
    let r = at_plain_word in (c.row_of.ensures ∙ registers-row _ r, registers-slot _ r)

pub returns-then-for_registers : goal.returns-then-for_registers
returns-then-for_registers c = let at_plain_word : ForRegisters c.fields_of-fields.result = registers-word _ _
    c.fields_of-fields.ensures
    (sym c.for_registers.ensures ∙ c.if-for_registers.true) in
    next-is _ _ _ _ _
    c.word_at-word.ensures
    c.fields_of-fields.ensures
    (reach-found _ _ _ _ _ _ _
    (registers-slot _ at_plain_word)
    c.pointer_in.ensures
    c.address_by-used.ensures
    c.reach_by-reach.ensures)

pub reach_by-reach-requires-2 : goal.reach_by-reach-requires-2
reach_by-reach-requires-2 c = (c.row_of-2.ensures, slot_is _ _ _ c.is_info.ensures c.slot_of-slot.ensures)

pub returns : goal.returns
returns c = next-is _ _ _ _ _
    c.word_at-word.ensures
    c.fields_of-fields.ensures
    (reach-found _ _ _ _ _ _ _
    (slot_is _ _ _
    c.is_info.ensures
    c.slot_of-slot.ensures)
    c.pointer_in-2.ensures
    c.address_by-used-2.ensures
    c.reach_by-reach-2.ensures)
