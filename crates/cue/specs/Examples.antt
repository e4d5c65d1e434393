-- Document 01's examples P1 to P10: what the definitions give, beside what the paper says.
use Rattle.std.specs.Prelude.{ℕ, List, [], ◌∷◌, ◌++◌, replicate}
use Rattle.lbp16.specs.Answer.{Answer}
use Rattle.lbp16.specs.Pointer.{fresh}
use Rattle.lbp16.specs.Space.{store_bytes}
use Rattle.lbp16.specs.Word.{bit, fields_of}
use Rattle.lbp16.specs.declared.word.Fields.{Fields}
use Rattle.packet.specs.Bytes.{number}
use Rattle.packet.specs.Command.{limit}
use Rattle.card.specs.Run.{run_packet}
use Rattle.spi.specs.Spi.{header_of}
use Rattle.spi.specs.declared.Header.{Header}
use Rattle.cue.specs.Compile.{compiled}

pub record Example : Type 0 where
  pub gives : List ℕ
  pub paper : List ℕ

-- fields as write, address, info, space, size code, increment, count
unfoldable pub shown_fields : Fields → List ℕ
shown_fields f =
    bit f.write ∷ bit f.address ∷ bit f.info ∷ f.space ∷ f.size ∷ bit f.increment ∷ f.count ∷ []

-- a header as address, command, increment, count
unfoldable pub shown_header : Header → List ℕ
shown_header h = h.address ∷ h.command ∷ bit h.increment ∷ h.count ∷ []

-- an answer as 0 and its values, or the refusal's number and place
unfoldable pub shown_answer : Answer → List ℕ
shown_answer (Answer.accepted values) = 0 ∷ values
shown_answer (Answer.refused n place) = n ∷ place ∷ []

unfoldable pub word : List ℕ → List ℕ
word bytes = shown_fields (fields_of (number bytes))

unfoldable pub header : ℕ → List ℕ
header w = shown_header (header_of w)

-- a packet alone on a fresh card
unfoldable pub packet : List ℕ → List ℕ
packet bytes = shown_answer (run_packet bytes (replicate store_bytes 0) fresh (replicate limit 0)).answer

-- a list compiled into room of 20 bytes that hold 7: the answer, and the room after it
unfoldable pub list : List ℕ → List ℕ
list bytes = shown_answer (compiled bytes (replicate 20 7)).answer ++ (compiled bytes (replicate 20 7)).room

unfoldable pub table : List Example
table =
    record { gives = word (0x85 ∷ 0x42 ∷ []); paper = 0 ∷ 1 ∷ 0 ∷ 0 ∷ 2 ∷ 1 ∷ 5 ∷ [] }
    ∷ record { gives = word (0x84 ∷ 0xC2 ∷ []); paper = 1 ∷ 1 ∷ 0 ∷ 0 ∷ 2 ∷ 1 ∷ 4 ∷ [] }
    ∷ record { gives = word (0x01 ∷ 0x45 ∷ []); paper = 0 ∷ 1 ∷ 0 ∷ 1 ∷ 1 ∷ 0 ∷ 1 ∷ [] }
    ∷ record { gives = word (0x01 ∷ 0x69 ∷ []); paper = 0 ∷ 1 ∷ 1 ∷ 2 ∷ 1 ∷ 0 ∷ 1 ∷ [] }
    ∷ record { gives = header 0x1000A830; paper = 0x1000 ∷ 0xA ∷ 1 ∷ 3 ∷ [] }
    ∷ record { gives = header 0x600CB040; paper = 0x600C ∷ 0xB ∷ 0 ∷ 4 ∷ [] }
    ∷ record {
      gives =
          list
          (0x57 ∷ 0x52 ∷ 2 ∷ 0 ∷ 0x20 ∷ 0 ∷ 0x20 ∷ 0 ∷ 0 ∷ 0 ∷ 0x57 ∷ 0x52 ∷ 2 ∷ 0 ∷ 0x22 ∷ 0 ∷ 0xA8 ∷ 0xC0 ∷ 0 ∷ 0 ∷ []);
      paper =
          0 ∷ 18 ∷ 1 ∷ 0x4C ∷ 0x42 ∷ 0x0E ∷ 0x00 ∷ 0x01 ∷ 0xD9 ∷ 0x1A ∷ 0x00 ∷ 0x02 ∷ 0x5A ∷ 0x82 ∷ 0xC9 ∷ 0x20 ∷ 0x00
          ∷ 0x20 ∷ 0x00 ∷ 0xA8 ∷ 0xC0 ∷ 7 ∷ 7 ∷ [];
    }
    ∷ record { gives = list []; paper = 0 ∷ 0 ∷ 0 ∷ replicate 20 7 }
    ∷ record { gives = packet (0x82 ∷ 0xC9 ∷ 0x20 ∷ 0x00 ∷ 0x20 ∷ 0x00 ∷ 0xA8 ∷ 0xC0 ∷ []); paper = 10 ∷ 0 ∷ [] }
    ∷ record { gives = packet (0x00 ∷ 0x42 ∷ []); paper = 3 ∷ 0 ∷ [] }
    ∷ record { gives = packet (0x00 ∷ 0x42 ∷ 0x00 ∷ 0x10 ∷ []); paper = 7 ∷ 0 ∷ [] }
    ∷ []

-- every example gives what the paper says
abbrev pub AllHold : List Example → Type 0
AllHold [] = Unit {0}
AllHold (e ∷ es) = (mathlib.Core.Path.◌≡◌ e.gives e.paper) × AllHold es
