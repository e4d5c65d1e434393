use mathlib.Core.Path.{◌∙◌}
use Rattle.lbp16.specs.Pointer.{spaces_at}
use Rattle.lbp16.proofs.pointer.SpacePointers.from_lent.Goals as goal

pub returns : goal.returns
unfolding spaces_at
returns c = λ i.
    record {
      registers = record { at = (c.new.ensures ∙ c.at_slot.ensures) i };
      eeprom = record { at = (c.new-2.ensures ∙ c.at_slot-2.ensures) i };
      status = record { at = (c.new-3.ensures ∙ c.at_slot-3.ensures) i };
      information = record { at = (c.new-4.ensures ∙ c.at_slot-4.ensures) i };
    }
