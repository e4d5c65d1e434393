-- A text that is written whole, or not at all.
use Rattle.std.specs.Prelude.{ℕ, List, cond, length, ltb}
use Rattle.text.specs.Room.{Filled, filled, text_left}

-- At the room's front; a room that is too small stays as it is. The bytes that are needed are told either way.
unfoldable pub whole_left : List ℕ → List ℕ → Filled
whole_left text room = cond (ltb (length room) (length text)) (filled (length text) room) (text_left text room)
