-- Tighter packing: what the planner puts out for a cue list.
use Rattle.std.specs.Prelude.{ℕ, ◌≤◌, ◌≡◌, List, [], ◌∷◌, false, length, take, drop, get_or, replicate}
use Rattle.lbp16.specs.Answer.{Answer}
use Rattle.packet.specs.Step.{Step, is_write}
use Rattle.cue.specs.Records.{records, records_of}
use Rattle.cue.specs.Compile.{Compiled, compiled, output}
use Rattle.tight.specs.Tight.{checked}
use Rattle.tight.specs.Tight

-- An output at the front of the room that the checker accepts, with as many packets as it says. It is no longer than the
-- packing rule's, of `most` bytes; room beyond is unchanged.
pub record Tighter (list room : List ℕ) (most : ℕ) (left : Compiled) : Type 0 where
  pub bytes : ℕ
  pub count : ℕ
  pub answered : left.answer ≡ Answer.accepted (bytes ∷ count ∷ [])
  pub no_longer : bytes ≤ most
  pub accepted : checked list (take bytes left.room) ≡ Tight.accepted count
  pub beyond : drop bytes left.room ≡ drop bytes room
  pub size : length left.room ≡ length room

-- where the compiler refuses it is refused alike, and nothing changes
unfoldable pub TightenedBy : Answer → List ℕ → List ℕ → Compiled → Type 0
TightenedBy (Answer.refused n place) list room left = left ≡ record { answer = Answer.refused n place; room = room }
TightenedBy (Answer.accepted values) list room left = Tighter list room (get_or values 0 0) left

-- All that the planner answers and leaves. Refused as the compiler does, 26 with the packing rule's bytes included.
unfoldable pub Tightened : List ℕ → List ℕ → Compiled → Type 0
Tightened list room left = TightenedBy (compiled list room).answer list room left

-- A list of 2 to 127 reads, all of one cell.
pub record OneCell (list : List ℕ) (n : ℕ) (x : Step) : Type 0 where
  pub some : 2 ≤ n
  pub few : n ≤ 127
  pub read : is_write x.kind ≡ false
  pub list-records : records_of list ≡ records (replicate n x)

-- with room enough for the packing rule's output comes out as one packet in 8 bytes
unfoldable pub EightBytes : List ℕ → List ℕ → Answer → Type 0
EightBytes list room answer =
    (n : ℕ) (x : Step) → OneCell list n x → length (output (replicate n x)) ≤ length room
    → answer ≡ Answer.accepted (8 ∷ 1 ∷ [])
