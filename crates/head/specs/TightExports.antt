-- What head_tight_check and head_tighten return and leave.
use Rattle.std.specs.Prelude.{ℕ, ◌≤◌, ◌≡◌, ◌≢◌, List, length, take, drop, replicate}
use Rattle.packet.specs.Step.{Step}
use Rattle.cue.specs.Compile.{output}
use Rattle.tight.specs.Tight.{Checked, accepted, rejected, refused, checked}
use Rattle.planner.specs.Planner.{OneCell}
use Rattle.head.specs.Exports.{Given, given, CompileExport, compile_left, export_compile}

-- 50: the output is rejected.
unfoldable pub tight_given : Checked → Given
tight_given (accepted count) = given 0 count
tight_given rejected = given 50 0
tight_given (refused number place) = given number place

unfoldable pub export_tight_check : List ℕ → List ℕ → Given
export_tight_check list output = tight_given (checked list output)

-- An output at the front of the room that the checker accepts, with so many packets, and no longer than the packing rule's, of
-- `most` bytes; room beyond is unchanged.
pub record TighterExport (list room : List ℕ) (most : ℕ) (left : CompileExport) : Type 0 where
  pub number : left.number ≡ 0
  pub no_longer : left.bytes ≤ most
  pub checks : checked list (take left.bytes left.room) ≡ accepted left.packets
  pub beyond : drop left.bytes left.room ≡ drop left.bytes room
  pub size : length left.room ≡ length room

-- All that head_tighten returns and leaves: what head_compile does where that refuses.
pub record TightenExport (list room : List ℕ) (left : CompileExport) : Type 0 where
  pub refuses : (export_compile list room).number ≢ 0 → left ≡ export_compile list room
  pub accepts : (export_compile list room).number ≡ 0 → TighterExport list room (export_compile list room).bytes left

-- 2 to 127 reads of one cell are one packet in 8 bytes.
unfoldable pub EightExport : List ℕ → List ℕ → CompileExport → Type 0
EightExport list room left =
    (n : ℕ) (x : Step) → OneCell list n x → length (output (replicate n x)) ≤ length room
    → left ≡ compile_left 0 8 1 left.room
