-- What head_part returns and leaves.
use Rattle.std.specs.Prelude.{ℕ, List, not, eqb}
use Rattle.parts.specs.Parts.{PartCall, part_of}
use Rattle.head.specs.Exports.{number_of, value_of}

pub record PartExport : Type 0 where
  pub number : ℕ
  pub taken : ℕ
  pub value : ℕ
  pub state : List ℕ
  pub room : List ℕ

abbrev pub part_left : ℕ → ℕ → ℕ → List ℕ → List ℕ → PartExport
part_left number taken value state room =
    record { number = number; taken = taken; value = value; state = state; room = room }

unfoldable pub of_part : PartCall → PartExport
of_part c = part_left (number_of c.answer) c.taken (value_of c.answer) c.state c.room

-- the list ends at the part's end unless `last` is 0
unfoldable pub export_part : List ℕ → List ℕ → ℕ → List ℕ → PartExport
export_part state part last room = of_part (part_of state part (not (eqb last 0)) room)
