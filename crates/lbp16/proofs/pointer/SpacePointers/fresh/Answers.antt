use Rattle.lbp16.specs.Pointer.{fresh_spaces}
use Rattle.lbp16.proofs.pointer.SpacePointers.fresh.Goals as goal

pub returns : goal.returns
unfolding fresh_spaces
returns c = λ i.
    record {
      registers = record { at = c.new.ensures i };
      eeprom = record { at = c.new-2.ensures i };
      status = record { at = c.new-3.ensures i };
      information = record { at = c.new-4.ensures i };
    }
