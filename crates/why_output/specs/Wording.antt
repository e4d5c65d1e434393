-- What the program `why` writes for a captured packet.
use Rattle.std.specs.Prelude.{ℕ, List, [], ◌++◌, Bool, ◌||◌, cond, length, take, eqb, ltb}
use Rattle.lbp16.specs.declared.pointer.Pointers.{Pointers}
use Rattle.text.specs.Number.{ascii, bytes_of_hex}
use Rattle.text.specs.Line.{numbered}
use Rattle.reason.specs.Reason.{explained}
use Rattle.reason.specs.declared.Reason.{Reason}
use Rattle.packet_text.specs.Wording.{refused_text, command_text}
use Rattle.why_output.specs.Pointed.{uses_pointer}

unfoldable pub accepted_text : List ℕ → List ℕ
accepted_text packet = cond (eqb (length packet) 0) (ascii "accepted, no commands\n") (ascii "accepted\n")

-- nothing is said of an empty front
unfoldable pub front_text : List ℕ → ℕ → List ℕ
front_text packet place =
    cond (eqb place 0) []
    (numbered (ascii "the ") place
    ++ ascii " bytes before it are an accepted packet:"
    ++ bytes_of_hex (take place packet)
    ++ ascii "\n")

-- Refusals 1 and 2 are of no command.
unfoldable pub said_of : List ℕ → Reason → List ℕ
said_of packet r =
    cond (eqb r.number 0) (accepted_text packet)
    (cond (ltb r.number 3) (refused_text r) (refused_text r ++ command_text packet r ++ front_text packet r.place))

unfoldable pub said : List ℕ → List ℕ → Pointers → List ℕ
said packet store p = said_of packet (explained packet store p)

-- From which state a packet is judged is said where a command uses a pointer. `given?`: whether the pointers were given.
unfoldable pub state_text : Bool → Bool → List ℕ
state_text given? used? =
    cond used? (cond given? (ascii "judged from the pointers given\n") (ascii "judged from a fresh card\n")) []

-- `used?`: whether a command of a packet before it uses one
unfoldable pub judged_text : Bool → Bool → List ℕ → List ℕ → Pointers → List ℕ
judged_text given? used? packet store p =
    said packet store p ++ state_text given? (used? || uses_pointer packet (explained packet store p))
