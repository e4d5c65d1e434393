-- What head_packet_text returns and leaves.
use Rattle.std.specs.Prelude.{ℕ, List, not, ◌||◌, cond, length, eqb}
use Rattle.lbp16.specs.Pointer.{above_size, pointers_of, lent_pointers}
use Rattle.packet_text.specs.Packet.{PacketLeft, shown_packet}

pub record PacketTextExport : Type 0 where
  pub number : ℕ
  pub bytes : ℕ
  pub pointers : List ℕ
  pub room : List ℕ

abbrev pub packet_text_left : ℕ → ℕ → List ℕ → List ℕ → PacketTextExport
packet_text_left number bytes pointers room = record { number = number; bytes = bytes; pointers = pointers; room = room }

-- the pointers as eight numbers
unfoldable pub lent_left : PacketLeft → PacketTextExport
lent_left l = packet_text_left l.number l.bytes (lent_pointers l.pointers) l.room

-- Refused with 1 where there are not eight pointers, or one is above the size of its space or info area.
unfoldable pub export_packet_text : List ℕ → List ℕ → List ℕ → PacketTextExport
export_packet_text packet pointers room =
    cond (not (eqb (length pointers) 8) || above_size (pointers_of pointers)) (packet_text_left 1 0 pointers room)
    (lent_left (shown_packet (pointers_of pointers) packet room))
