-- A cue list written as text: one line for each record.
use Rattle.std.specs.Prelude.{ℕ, ◌*◌, List, [], ◌++◌, map, length}
use Rattle.text.specs.Number.{ascii, hexadecimal}
use Rattle.lbp16.specs.Answer.{Answer}
use Rattle.lbp16.specs.Space.{Space, row}
use Rattle.space_text.specs.SpaceText.{space_word}
use Rattle.packet.specs.Bytes.{number}
use Rattle.packet.specs.Step.{Kind, read, write, infoRead, Step}
use Rattle.cue.specs.Packing.{join_all}
use Rattle.cue.specs.Records.{Listed, refused, records, records_of}
use Rattle.cue_text.specs.Assembled.{Left, placed}

-- so many digits behind 0x
unfoldable pub hex_word : ℕ → ℕ → List ℕ
hex_word digits n = ascii " 0x" ++ hexadecimal digits n

unfoldable pub kind_word : Kind → List ℕ
kind_word read = ascii "read "
kind_word write = ascii "write "
kind_word infoRead = []

-- a value has as many digits as its element
unfoldable pub value_word : Kind → Space → List ℕ → List ℕ
value_word read s bytes = []
value_word write s bytes = hex_word (2 * (row s).element) (number bytes)
value_word infoRead s bytes = []

unfoldable pub line_of : Step → List ℕ
line_of x =
    kind_word x.kind ++ space_word x.space ++ hex_word 4 x.address ++ value_word x.kind x.space x.bytes
    ++ ascii "\n"

unfoldable pub text_of : List Step → List ℕ
text_of xs = join_all (map line_of xs)

-- the compiler's own refusal, or 26, or the text
unfoldable pub written_to : Listed → List ℕ → Left
written_to (refused n i) room = record { answer = Answer.refused n i; room = room }
written_to (records xs) room = placed (text_of xs) (length xs) room

unfoldable pub list_written : List ℕ → List ℕ → Left
list_written list room = written_to (records_of list) room
