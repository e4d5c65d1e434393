-- The inside of private functions' contracts.
use Rattle.std.specs.Prelude.{ℕ, List}
use Rattle.lbp16.specs.declared.pointer.Pointers.{Pointers}
use Rattle.cue.specs.Output.{Front}
use Rattle.text.specs.Room.{put_at}
use Rattle.lbpdis_output.specs.Said.{part_text, passed_by, pointers_by, PartLeft, part_left}

-- the text put as far as there is room
unfoldable pub part_put : Front → ℕ → List ℕ → Pointers → List ℕ → PartLeft
part_put front i rest p room = part_left (put_at (part_text front i rest p) 0 room) (passed_by front) (pointers_by front rest p)
