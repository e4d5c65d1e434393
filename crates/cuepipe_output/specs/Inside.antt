-- The inside of private functions' contracts.
use Rattle.std.specs.Prelude.{ℕ, List, Bool, cond, Option, Some, None}
use Rattle.text.specs.Room.{Filled, filled, put_at}
use Rattle.cuepipe_output.specs.Feed.{called_on, said_of, stops}
use Rattle.cuepipe_output.specs.declared.Called.{Called}

-- what a call writes from a place of the room on, what it took where another may follow, and what it leaves
pub record CallLeft : Type 0 where
  pub filled : Filled
  pub taken : Option ℕ
  pub state : List ℕ

unfoldable pub call_of : List ℕ → List ℕ → Bool → ℕ → List ℕ → CallLeft
call_of state part last at room =
    let c = called_on state part last in
    record { filled = put_at (said_of c) at room; taken = cond (stops c) None (Some c.taken); state = c.state }

abbrev pub call_left : Called → List ℕ → List ℕ → CallLeft
call_left c state room = record { filled = filled c.next room; taken = c.taken; state = state }
