-- What the program `cuewhy` writes for the bytes that it is given.
use Rattle.std.specs.Prelude.{ℕ, List, cond, length, drop, eqb, ltb}
use Rattle.text.specs.Number.{ascii}
use Rattle.text.specs.Line.{too_long_line}
use Rattle.list_reason.specs.ListReason.{walked, list_why}
use Rattle.cuewhy_output.specs.Wording.{accepted_text, refused_text}

-- the most bytes that a list may have: those of a hundred thousand writes
abbrev pub most_bytes : ℕ
most_bytes = 1000000

unfoldable pub usage_line : List ℕ
usage_line = ascii "usage: cuewhy < LIST\n"

unfoldable pub why_text : List ℕ → List ℕ
why_text list =
    let w = list_why list in
    cond (eqb w.number 0) (accepted_text (walked list).records) (refused_text w (drop w.offset list))

-- `count`: the program's name and its arguments. It takes none.
unfoldable pub said : ℕ → List ℕ → List ℕ
said count list = cond (eqb count 1) (cond (ltb most_bytes (length list)) too_long_line (why_text list)) usage_line
