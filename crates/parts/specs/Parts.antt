-- A call of the compiler that is fed in parts, on the lent state and the lent room.
use Rattle.std.specs.Prelude.{ℕ, List, ◌++◌, Bool, cond, length, drop, ltb, Result}
use Rattle.lbp16.specs.Answer.{Answer, refused}
use Rattle.packet.specs.Verdict.{verdict_listed}
use Rattle.lbp16.specs.declared.Refusal.{Refusal}
use Rattle.parts.specs.Taking.{Stopped, is_going, called, answered}
use Rattle.parts.specs.State.{Held, held_packing, bad_state, state_of, bytes_of_state}
use Rattle.cue.specs.Output.{frame_room}

-- All that a call answers and leaves: `taken` bytes of the part were taken.
pub record PartCall : Type 0 where
  pub answer : Answer
  pub taken : ℕ
  pub state : List ℕ
  pub room : List ℕ

unfoldable pub untouched : Answer → List ℕ → List ℕ → PartCall
untouched a state room = record { answer = a; taken = 0; state = state; room = room }

-- What was handed out stands at the room's front. The state is changed only if bytes may be taken.
unfoldable pub leaves : Stopped Held → Bool → List ℕ → List ℕ → PartCall
leaves q going? state room =
    record {
      answer = answered q.left;
      taken = q.taken;
      state = cond going? (bytes_of_state q.left.state) state;
      room = q.left.out ++ drop (length q.left.out) room;
    }

-- Refusal 26 comes first, then 1.
unfoldable pub part_of : List ℕ → List ℕ → Bool → List ℕ → PartCall
part_of state part last room =
    cond (ltb (length room) frame_room) (untouched (refused 26 frame_room) state room)
    (cond (bad_state state) (untouched (refused 1 0) state room)
    (leaves (called held_packing (state_of state) part last) (is_going (state_of state).standing) state room))

-- what the code answers and leaves
unfoldable pub part_left : Result ℕ Refusal → ℕ → List ℕ → List ℕ → PartCall
part_left a taken state room = record { answer = verdict_listed a; taken = taken; state = state; room = room }
