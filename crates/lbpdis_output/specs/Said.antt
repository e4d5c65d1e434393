-- What the program `lbpdis` writes for what stands at the front of its input: the number of a packet and its bytes, and its text.
use Rattle.std.specs.Prelude.{ℕ, ◌+◌, List, [], ◌++◌, cond, eqb, Option, None, Some}
use Rattle.lbp16.specs.declared.pointer.Pointers.{Pointers}
use Rattle.cue.specs.Output.{Front, front_of, bytes_in_frame}
use Rattle.text.specs.Number.{ascii}
use Rattle.text.specs.Line.{numbered}
use Rattle.text.specs.Room.{Filled, text_left}
use Rattle.card.specs.Run.{checked_packet}
use Rattle.reason.specs.Reason.{pointers_left}
use Rattle.packet_text.specs.Packet.{packet_text}

-- the line of packet i, of n bytes
unfoldable pub packet_line : ℕ → ℕ → List ℕ
packet_line i n =
    numbered (ascii "packet ") i ++ numbered (ascii ", ") n ++ cond (eqb n 1) (ascii " byte\n") (ascii " bytes\n")

-- what is wrong with part i
unfoldable pub fault_line : ℕ → List ℕ → List ℕ
fault_line i words = numbered (ascii "part ") i ++ words

unfoldable pub cut_line : ℕ → List ℕ
cut_line i = fault_line i (ascii " is cut\n")

-- An input that has no mark where it begins is something else.
unfoldable pub unmarked_line : ℕ → List ℕ
unmarked_line i =
    cond (eqb i 0) (ascii "the input does not begin with \"LB\": why takes a packet alone, and hexadecimal text\n")
    (fault_line i (ascii " has no mark\n"))

unfoldable pub end_line : ℕ → List ℕ
end_line i = cond (eqb i 0) (ascii "no packets\n") []

-- Packets and parts are counted from 0; `i` is that of the front.
unfoldable pub part_text : Front → ℕ → List ℕ → Pointers → List ℕ
part_text Front.end i rest p = end_line i
part_text Front.cut i rest p = cut_line i
part_text Front.unmarked i rest p = unmarked_line i
part_text (Front.frame n) i rest p = packet_line i n ++ packet_text p (bytes_in_frame n rest)

-- the bytes that are passed: those of a frame, and none where the input ends or nothing more is said
unfoldable pub passed_by : Front → Option ℕ
passed_by Front.end = None
passed_by Front.cut = None
passed_by Front.unmarked = None
passed_by (Front.frame n) = Some (4 + n)

-- A packet that is refused leaves the pointers.
unfoldable pub pointers_by : Front → List ℕ → Pointers → Pointers
pointers_by Front.end rest p = p
pointers_by Front.cut rest p = p
pointers_by Front.unmarked rest p = p
pointers_by (Front.frame n) rest p = pointers_left (checked_packet p (bytes_in_frame n rest)) p

-- All that is answered and left: the text at the front of the room, its bytes, the bytes passed, and the pointers.
pub record PartLeft : Type 0 where
  pub said : Filled
  pub passed : Option ℕ
  pub pointers : Pointers

abbrev pub part_left : Filled → Option ℕ → Pointers → PartLeft
part_left said passed pointers = record { said = said; passed = passed; pointers = pointers }

unfoldable pub part_by : Front → ℕ → List ℕ → Pointers → List ℕ → PartLeft
part_by front i rest p room = part_left (text_left (part_text front i rest p) room) (passed_by front) (pointers_by front rest p)

unfoldable pub part_said : ℕ → List ℕ → Pointers → List ℕ → PartLeft
part_said i rest p room = part_by (front_of rest) i rest p room
