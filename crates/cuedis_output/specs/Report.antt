-- What the program `cuedis` writes for the bytes that it is given.
use Rattle.std.specs.Prelude.{ℕ, List, cond, length, eqb, ltb}
use Rattle.text.specs.Number.{ascii}
use Rattle.text.specs.Line.{refused_line, too_long_line}
use Rattle.cue.specs.Records.{Listed, refused, records, records_of}
use Rattle.list_text.specs.Written.{text_of}

-- the most bytes that a list may have: those of a hundred thousand writes
abbrev pub most_bytes : ℕ
most_bytes = 1000000

-- the bytes of the output room: those of a hundred thousand of the longest lines
abbrev pub room_bytes : ℕ
room_bytes = 3400000

unfoldable pub usage_line : List ℕ
usage_line = ascii "usage: cuedis < LIST\n"

-- the list as text, or the compiler's refusal
unfoldable pub said_of : Listed → List ℕ
said_of (refused n i) = refused_line n i
said_of (records xs) = text_of xs

-- `words`: the program's name and its arguments, of which it takes none
unfoldable pub said : ℕ → List ℕ → List ℕ
said words list = cond (eqb words 1) (cond (ltb most_bytes (length list)) too_long_line (said_of (records_of list))) usage_line
