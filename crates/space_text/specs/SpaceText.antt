-- A space in words.
use Rattle.std.specs.Prelude.{ℕ, List, [], cond}
use Rattle.text.specs.Number.{ascii}
use Rattle.text.specs.Line.{numbered}
use Rattle.lbp16.specs.Space.{Space, registers, eeprom, status, information, absent, space_of, is_absent}

-- the spaces' names
unfoldable pub space_word : Space → List ℕ
space_word registers = ascii "registers"
space_word eeprom = ascii "eeprom"
space_word status = ascii "status"
space_word information = ascii "information"
space_word absent = []

-- a space by its name, or by its number where the card has none
unfoldable pub space_text : ℕ → List ℕ
space_text n = cond (is_absent (space_of n)) (numbered (ascii "space ") n) (space_word (space_of n))
