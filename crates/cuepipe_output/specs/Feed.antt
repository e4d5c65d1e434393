-- What is written for a list as it comes, part by part.
use Rattle.std.specs.Prelude.{ℕ, zero, suc, List, [], ◌∷◌, ◌++◌, Bool, true, false, ◌||◌, length, drop, replicate, eqb}
use Rattle.lbp16.specs.Answer.{Answer}
use Rattle.cue.specs.Output.{frame_room}
use Rattle.parts.specs.Parts.{PartCall, part_of}
use Rattle.text.specs.Room.{Filled, filled, put_at}
use Rattle.cuec_output.specs.Report.{bytes_of_answer}

-- A call of the compiler in parts, with a room of zeros for the packet that it may hand out.
unfoldable pub called_on : List ℕ → List ℕ → Bool → PartCall
called_on state part last = part_of state part last (replicate frame_room 0)

-- what is written of it: the packet handed out, or the refusal's line
unfoldable pub said_of : PartCall → List ℕ
said_of c = bytes_of_answer c.answer c.room

-- A refusal ends the work, and so does a call that takes nothing.
unfoldable pub is_refused : Answer → Bool
is_refused (Answer.accepted values) = false
is_refused (Answer.refused n k) = true

unfoldable pub stops : PartCall → Bool
stops c = is_refused c.answer || eqb c.taken 0

-- All that is written for a part, whether another may follow, and the state that is left.
pub record Fed : Type 0 where
  pub text : List ℕ
  pub more : Bool
  pub state : List ℕ

abbrev pub fed : List ℕ → Bool → List ℕ → Fed
fed text more state = record { text = text; more = more; state = state }

-- a call, and what comes of the later ones unless it stops
unfoldable pub fed_by : Bool → PartCall → Fed → Fed
fed_by true c later = fed (said_of c) false c.state
fed_by false c later = fed (said_of c ++ later.text) later.more later.state

-- Calls until all of the part is taken. `fuel` bounds them; as many as the part has bytes are enough.
unfoldable pub fed_from : ℕ → List ℕ → List ℕ → Fed
fed_from zero state rest = fed [] true state
fed_from (suc fuel) state [] = fed [] true state
fed_from (suc fuel) state (b ∷ bs) =
    let c = called_on state (b ∷ bs) false in
    fed_by (stops c) c (fed_from fuel c.state (drop c.taken (b ∷ bs)))

-- A part of no bytes is the list's end: one call, and none follows.
unfoldable pub fed_of : List ℕ → List ℕ → Fed
fed_of state [] = let c = called_on state [] true in fed (said_of c) false c.state
fed_of state (b ∷ bs) = fed_from (length (b ∷ bs)) state (b ∷ bs)

-- What the function answers and leaves: the text from a place of the room on, cut off at its end.
pub record FedLeft : Type 0 where
  pub filled : Filled
  pub more : Bool
  pub state : List ℕ

unfoldable pub fed_left : Fed → ℕ → List ℕ → FedLeft
fed_left f at room = record { filled = put_at f.text at room; more = f.more; state = f.state }

abbrev pub left_by : ℕ → Bool → List ℕ → List ℕ → FedLeft
left_by n more state room = record { filled = filled n room; more = more; state = state }
