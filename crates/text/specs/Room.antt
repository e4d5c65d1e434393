-- A text put into a room.
use Rattle.std.specs.Prelude.{ℕ, ◌+◌, min, List, ◌++◌, length, drop}
use Rattle.std.proofs.lemmas.List.Edits.{sets}

-- The room after it, and the place behind it.
pub record Filled : Type 0 where
  pub next : ℕ
  pub room : List ℕ

abbrev pub filled : ℕ → List ℕ → Filled
filled next room = record { next = next; room = room }

-- From a place on. What does not fit is cut off at the room's end.
unfoldable pub put_at : List ℕ → ℕ → List ℕ → Filled
put_at text at room = filled (min (at + length text) (length room)) (sets room at text)

-- whole, at the front
unfoldable pub text_left : List ℕ → List ℕ → Filled
text_left text room = filled (length text) (text ++ drop (length text) room)
