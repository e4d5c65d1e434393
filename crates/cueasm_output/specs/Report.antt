-- What the program `cueasm` writes for the bytes that it is given.
use Rattle.std.specs.Prelude.{ℕ, List, cond, length, eqb, ltb}
use Rattle.text.specs.Number.{ascii}
use Rattle.text.specs.Line.{too_long_line}
use Rattle.cue_text.specs.Assembled.{Assembled, bad, cues, assembled, list_of}
use Rattle.cueasm_output.specs.Sentence.{sentence}

-- the most bytes that a text may have: those of a hundred thousand of the longest lines that `cuedis` writes
abbrev pub most_bytes : ℕ
most_bytes = 3400000

-- the bytes of the output room: those of a hundred thousand writes
abbrev pub room_bytes : ℕ
room_bytes = 1000000

unfoldable pub usage_line : List ℕ
usage_line = ascii "usage: cueasm < TEXT\n"

-- the list, or what is wrong with the earliest bad line
unfoldable pub said_of : List ℕ → Assembled → List ℕ
said_of text (bad n line) = sentence n line text
said_of text (cues cs) = list_of cs

-- `words`: the program's name and its arguments, of which it takes none
unfoldable pub said : ℕ → List ℕ → List ℕ
said words text = cond (eqb words 1) (cond (ltb most_bytes (length text)) too_long_line (said_of text (assembled text))) usage_line
