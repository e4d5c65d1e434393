-- How far a command reaches, from its definitions.
use Rattle.std.specs.Prelude.{ℕ, ◌+◌, ◌*◌, List}
use Rattle.lbp16.specs.Space.{space_of}
use Rattle.lbp16.specs.Pointer.{advanced, slot_of}
use Rattle.lbp16.specs.declared.word.Fields.{Fields}
use Rattle.lbp16.specs.declared.pointer.Pointers.{Pointers}
use Rattle.packet.specs.Step.{is_info, answered}
use Rattle.packet.specs.Command.{kind_of, row_of, command_bytes, address_used, stride}
use Rattle.packet.specs.declared.command.Reach.{Reach}

-- a command that uses the address `used`
unfoldable pub reach_from : Fields → ℕ → Reach
reach_from f used =
    record {
      slot = slot_of (is_info (kind_of f)) (space_of f.space);
      used = used;
      at = (row_of f).place + used;
      element = (row_of f).element;
      bytes = command_bytes f;
      answered = f.count * answered (kind_of f) (space_of f.space);
      next = advanced used (f.count * stride f);
    }

abbrev pub reach_at : Pointers → Fields → List ℕ → Reach
reach_at p f rest = reach_from f (address_used p f rest)
