-- What the compiling program writes for the bytes that it is given.
use Rattle.std.specs.Prelude.{cond, ℕ, List, length, take, get_or, replicate, ltb}
use Rattle.lbp16.specs.Answer.{Answer}
use Rattle.cue.specs.Compile.{Compiled, compiled}
use Rattle.text.specs.Line.{refused_line, too_long_line}

-- the most bytes that a list may have, and the bytes of the output room
abbrev pub most_bytes : ℕ
most_bytes = 16384

abbrev pub room_bytes : ℕ
room_bytes = 32768

-- An acceptance's first value counts the output bytes at the front of the room.
unfoldable pub bytes_of_answer : Answer → List ℕ → List ℕ
bytes_of_answer (Answer.accepted values) room = take (get_or values 0 0) room
bytes_of_answer (Answer.refused n k) room = refused_line n k

unfoldable pub bytes_of_compiled : Compiled → List ℕ
bytes_of_compiled c = bytes_of_answer c.answer c.room

-- The list is compiled into a room of zeros.
unfoldable pub said : List ℕ → List ℕ
said list =
    cond (ltb most_bytes (length list)) too_long_line (bytes_of_compiled (compiled list (replicate room_bytes 0)))
