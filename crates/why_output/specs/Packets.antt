-- What the program writes for packets behind "LB": each is judged in the state that those before it leave, up to the first that is refused.
use Rattle.std.specs.Prelude.{ℕ, zero, suc, ◌+◌, List, [], ◌++◌, Bool, false, ◌||◌, cond, length, take, replicate, eqb, ltb}
use Rattle.std.specs.Prelude.{Result, Ok, Err}
use Rattle.lbp16.specs.Answer.{Answer}
use Rattle.lbp16.specs.declared.pointer.Pointers.{Pointers}
use Rattle.packet.specs.Command.{limit}
use Rattle.card.specs.Run.{Outcome, run_packet}
use Rattle.cue.specs.Output.{Front, front_of, bytes_in_frame, behind_frame}
use Rattle.text.specs.Number.{ascii, bytes_of_hex}
use Rattle.text.specs.Line.{numbered}
use Rattle.why_output.specs.Pointed.{pointed_to}
use Rattle.why_output.specs.Wording.{state_text, judged_text}
use Rattle.why_output.specs.declared.packets.Stop.{Stop}

-- the bytes of the accepted packet at the front, or why none stands there
abbrev pub Part : Type 0
Part = Result ℕ Stop

-- What stands at the front, and what the packet there leaves.
pub record PartLeft : Type 0 where
  pub part : Part
  pub store : List ℕ
  pub pointers : Pointers

abbrev pub part_left : Part → List ℕ → Pointers → PartLeft
part_left part store p = record { part = part; store = store; pointers = p }

-- of n bytes
unfoldable pub ran_part : Answer → ℕ → Part
ran_part (Answer.refused m place) n = Err (Stop.Refused n)
ran_part (Answer.accepted values) n = Ok n

unfoldable pub ran_left : ℕ → Outcome → PartLeft
ran_left n o = part_left (ran_part o.answer n) o.store o.pointers

unfoldable pub front_left : Front → List ℕ → List ℕ → Pointers → PartLeft
front_left Front.end rest store p = part_left (Err Stop.End) store p
front_left Front.cut rest store p = part_left (Err Stop.Cut) store p
front_left Front.unmarked rest store p = part_left (Err Stop.Unmarked) store p
front_left (Front.frame n) rest store p = ran_left n (run_packet (bytes_in_frame n rest) store p (replicate limit 0))

unfoldable pub part_at : List ℕ → List ℕ → Pointers → PartLeft
part_at rest store p = front_left (front_of rest) rest store p

unfoldable pub all_text : ℕ → List ℕ
all_text n =
    cond (eqb n 0) (ascii "accepted, no packets\n")
    (numbered (ascii "accepted, ") n ++ cond (eqb n 1) (ascii " packet\n") (ascii " packets\n"))

-- a packet's bytes; of one above 1,472 their number and the first 16
unfoldable pub shown_bytes : List ℕ → List ℕ
shown_bytes packet =
    cond (ltb limit (length packet))
    (numbered (ascii " ") (length packet) ++ ascii " bytes, the first 16:" ++ bytes_of_hex (take 16 packet))
    (bytes_of_hex packet)

unfoldable pub shown_text : ℕ → List ℕ → List ℕ
shown_text i packet = numbered (ascii "packet ") i ++ ascii " is refused:" ++ shown_bytes packet ++ ascii "\n"

unfoldable pub fault_text : ℕ → List ℕ → List ℕ
fault_text i words = numbered (ascii "part ") i ++ words

-- what is said at part i, in the state that the packets before it left; `used?`: whether a command of these uses a pointer
unfoldable pub stop_text : Stop → Bool → ℕ → Bool → List ℕ → List ℕ → Pointers → List ℕ
stop_text Stop.End given? i used? rest store p = all_text i ++ state_text given? used?
stop_text Stop.Cut given? i used? rest store p = fault_text i (ascii " is cut\n") ++ state_text given? used?
stop_text Stop.Unmarked given? i used? rest store p = fault_text i (ascii " has no mark\n") ++ state_text given? used?
stop_text (Stop.Refused n) given? i used? rest store p =
    shown_text i (bytes_in_frame n rest) ++ judged_text given? used? (bytes_in_frame n rest) store p

-- what is said behind an accepted packet, or where it stops
unfoldable pub at_part : Part → (ℕ → List ℕ) → (Stop → List ℕ) → List ℕ
at_part (Ok n) behind stopped = behind n
at_part (Err stop) behind stopped = stopped stop

-- From packet i on. `fuel` bounds the packets; more than the bytes is enough.
unfoldable pub packets_from : ℕ → Bool → ℕ → Bool → List ℕ → List ℕ → Pointers → List ℕ
packets_from zero given? i used? rest store p = []
packets_from (suc fuel) given? i used? rest store p =
    let t = part_at rest store p in
    at_part t.part
    (λ n.
    let packet = bytes_in_frame n rest in
    packets_from fuel given? (1 + i) (used? || pointed_to (length packet) packet) (behind_frame n rest) t.store t.pointers)
    (λ stop. stop_text stop given? i used? rest t.store t.pointers)

unfoldable pub packets_text : Bool → List ℕ → List ℕ → Pointers → List ℕ
packets_text given? bytes store p = packets_from (suc (length bytes)) given? 0 false bytes store p
