-- From text to cells: running the compiled packets of an accepted text's list reads the values and leaves the cells that doing its
-- lines one by one would, the two cells apart.
use Rattle.std.specs.Prelude.{ℕ, ◌≤◌, ◌≡◌, List, false, length, take}
use Rattle.lbp16.specs.declared.pointer.Pointers.{Pointers}
use Rattle.packet.specs.Command.{limit}
use Rattle.card.specs.Run.{bad_state}
use Rattle.cue.specs.Records.{records, records_of}
use Rattle.cue.specs.Output.{frames, apart}
use Rattle.cue.specs.Compile.{packed, output, compiled}
use Rattle.cue.specs.Play.{play}
use Rattle.cue.specs.Demand3.{SameAsRecords}
use Rattle.cue_text.specs.Assembled.{assembled, cues, steps_of}
use Rattle.cue_text.specs.declared.line.Cue.{Cue}

-- `list` is what a text was assembled to. Its lines are records; these are the list's, so that the compiler does not refuse it with 21
-- to 24; its output, in any room that is large enough, is packets; and running these is doing the lines.
pub record TextShow (text list : List ℕ) : Type 0 where
  pub lines : List Cue
  pub text-lines : assembled text ≡ cues lines
  pub list-records : records_of list ≡ records (steps_of lines)
  pub packets : (room : List ℕ) → length (output (steps_of lines)) ≤ length room
      → apart (take (length (output (steps_of lines))) (compiled list room).room) ≡ frames (packed (steps_of lines))
  pub same : (store : List ℕ) (p : Pointers) (rooms : ℕ → List ℕ) → bad_state store p ≡ false
      → ((i : ℕ) → length (rooms i) ≡ limit)
      → SameAsRecords (steps_of lines) (packed (steps_of lines)) store (play (packed (steps_of lines)) rooms store p)
