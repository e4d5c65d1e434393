-- A packet in words: a line for each accepted command; of a packet that is refused also the refusal, and the command that it is of.
use Rattle.std.specs.Prelude.{ℕ, zero, suc, ◌+◌, ◌*◌, List, [], ◌∷◌, ◌++◌, cond, length, take, drop, eqb, ltb, Result, Ok, Err}
use Rattle.lbp16.specs.Answer.{rule_number}
use Rattle.lbp16.specs.declared.Refusal.{Refusal}
use Rattle.lbp16.specs.declared.word.Fields.{Fields}
use Rattle.lbp16.specs.declared.pointer.Pointers.{Pointers}
use Rattle.packet.specs.Bytes.{number}
use Rattle.packet.specs.Command.{fields_at, row_of, header_bytes, command_bytes, address_used, pointers_after}
use Rattle.packet.specs.Judge.{Verdict, refused, accepted}
use Rattle.text.specs.Number.{ascii, hexadecimal}
use Rattle.text.specs.Line.{numbered}
use Rattle.space_text.specs.SpaceText.{space_text}
use Rattle.card.specs.Run.{checked_packet}
use Rattle.reason.specs.Reason.{pointers_left, reason_of}
use Rattle.reason.specs.declared.Reason.{Reason}
use Rattle.packet_text.specs.declared.Shown.{Shown}
use Rattle.packet_text.specs.Wording.{refused_text, kind_text, address_digits, command_text}

unfoldable pub named_text : ℕ → Fields → List ℕ
named_text place f = numbered (ascii "  ") place ++ ascii ": " ++ kind_text f ++ ascii " " ++ space_text f.space

-- the address that the command uses
unfoldable pub used_text : Fields → ℕ → List ℕ
used_text f used =
    cond f.address (ascii " 0x") (ascii " from the pointer (0x")
    ++ hexadecimal (address_digits used) used
    ++ cond f.address (ascii "") (ascii ")")

unfoldable pub moved_text : Fields → List ℕ
moved_text f =
    numbered (ascii ", ") f.count
    ++ cond (eqb f.count 1) (ascii " element") (ascii " elements")
    ++ cond f.increment (ascii ", increment") (ascii ", no increment")

-- values of so many bytes each, low byte first in the packet, each with as many digits as its element
unfoldable pub values_text : ℕ → ℕ → List ℕ → List ℕ
values_text element zero bytes = []
values_text element (suc n) bytes =
    ascii " 0x" ++ hexadecimal (2 * element) (number (take element bytes)) ++ values_text element n (drop element bytes)

-- what a write carries
unfoldable pub written_text : Fields → List ℕ → List ℕ
written_text f rest =
    cond f.write (ascii ":" ++ values_text (row_of f).element f.count (drop (header_bytes f) rest) ++ ascii "\n") (ascii "\n")

-- the line of a command that uses the address `used`, and stands at the front of `rest`
unfoldable pub line_by : ℕ → Fields → ℕ → List ℕ → List ℕ
line_by place f used rest = named_text place f ++ used_text f used ++ moved_text f ++ written_text f rest

unfoldable pub line_text : Pointers → ℕ → List ℕ → List ℕ
line_text p place rest = line_by place (fields_at rest) (address_used p (fields_at rest) rest) rest

-- The lines of the commands from `rest` on, each from the pointers that those before it leave. `fuel` bounds their number; as many as
-- there are bytes is enough.
unfoldable pub lines_from : ℕ → Pointers → ℕ → List ℕ → List ℕ
lines_from zero p place rest = []
lines_from (suc fuel) p place [] = []
lines_from (suc fuel) p place (b ∷ bs) =
    let rest = b ∷ bs in
    let f = fields_at rest in
    line_text p place rest ++ lines_from fuel (pointers_after p f rest) (place + command_bytes f) (drop (command_bytes f) rest)

unfoldable pub lines_text : Pointers → List ℕ → List ℕ
lines_text p commands = lines_from (length commands) p 0 commands

-- Refusals 1 and 2 are of no command.
unfoldable pub refusal_text : List ℕ → Reason → List ℕ
refusal_text packet r = ascii "  " ++ refused_text r ++ cond (ltb r.number 3) [] (ascii "  " ++ command_text packet r)

-- the commands before the refused one, and the refusal
unfoldable pub refused_packet : Pointers → List ℕ → Reason → List ℕ
refused_packet p packet r = lines_text p (take r.place packet) ++ refusal_text packet r

unfoldable pub text_by : Pointers → List ℕ → Verdict → List ℕ
text_by p packet (accepted end) = cond (eqb (length packet) 0) (ascii "  no commands\n") (lines_text p packet)
text_by p packet (refused n place) = refused_packet p packet (reason_of p packet (refused n place))

unfoldable pub packet_text : Pointers → List ℕ → List ℕ
packet_text p packet = text_by p packet (checked_packet p packet)

-- the most bytes that it has, whatever the packet is
abbrev pub most_text : ℕ
most_text = 69584

-- What is answered and left: 26 where the room is below the text's bytes, with the room and the pointers as they were; else the text at
-- the room's front, and the pointers that the packet leaves. The bytes needed are told either way.
pub record PacketLeft : Type 0 where
  pub number : ℕ
  pub bytes : ℕ
  pub pointers : Pointers
  pub room : List ℕ

abbrev pub packet_left : ℕ → ℕ → Pointers → List ℕ → PacketLeft
packet_left number bytes pointers room = record { number = number; bytes = bytes; pointers = pointers; room = room }

-- the same of the code's answer
unfoldable pub shown_left : Pointers → Result Shown Refusal → List ℕ → PacketLeft
shown_left p (Ok s) room = packet_left 0 s.bytes s.pointers room
shown_left p (Err r) room = packet_left (rule_number r.rule) r.place p room

unfoldable pub shown_packet : Pointers → List ℕ → List ℕ → PacketLeft
shown_packet p packet room =
    let text = packet_text p packet in
    cond (ltb (length room) (length text)) (packet_left 26 (length text) p room)
    (packet_left 0 (length text) (pointers_left (checked_packet p packet) p) (text ++ drop (length text) room))
