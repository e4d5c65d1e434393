-- Why a packet is refused. Number and place are the check's; the command at fault is named by its index from 0,
-- its fields and the address that it uses.
use Rattle.std.specs.Prelude.{ℕ, zero, suc, ◌+◌, ◌-◌, ◌≤◌, min, ◌≡◌, List, cond, length, take, drop, ltb, Option, Some, None}
use Rattle.lbp16.specs.Word.{fields_of}
use Rattle.lbp16.specs.declared.pointer.Pointers.{Pointers}
use Rattle.packet.specs.Command.{fields_at, command_bytes, address_used}
use Rattle.packet.specs.Judge.{Carried, Verdict, refused, accepted, judge}
use Rattle.card.specs.Run.{checked}
use Rattle.reason.specs.declared.Reason.{Reason}
use Rattle.reason.specs.declared.reader.Header.{Header}

-- the place past a command of k bytes, no further than the packet's end
unfoldable pub place_after : List ℕ → ℕ → ℕ → ℕ
place_after packet place k = min (place + k) (length packet)

-- a command's fields, and the address that it uses
unfoldable pub header_at : Pointers → List ℕ → Header
header_at p rest = record { fields = fields_at rest; address = address_used p (fields_at rest) rest }

-- How many commands the first n bytes hold. `fuel` bounds their number; as many as there are bytes is enough.
unfoldable pub commands_from : ℕ → ℕ → List ℕ → ℕ
commands_from zero n rest = 0
commands_from (suc fuel) zero rest = 0
commands_from (suc fuel) (suc n) rest =
    let k = command_bytes (fields_at rest) in
    1 + commands_from fuel (suc n - k) (drop k rest)

unfoldable pub commands_before : ℕ → List ℕ → ℕ
commands_before place packet = commands_from place place packet

-- the pointers that the commands before a place leave
unfoldable pub pointers_left : Verdict → Pointers → Pointers
pointers_left (refused number place) p = p
pointers_left (accepted end) p = end.pointers

unfoldable pub pointers_at : Pointers → List ℕ → ℕ → Pointers
pointers_at p packet place = pointers_left (judge p (take place packet)) p

-- no command is named: index, fields and address are 0
unfoldable pub unnamed : ℕ → ℕ → Reason
unnamed number place = record { number = number; place = place; index = 0; fields = fields_of 0; address = 0 }

-- a reason of the code; where there is none all is 0
unfoldable pub reason_listed : Option Reason → Reason
reason_listed None = unnamed 0 0
reason_listed (Some r) = r

-- the command at a place; its fields are all 0 where its word is cut off
unfoldable pub named : Pointers → List ℕ → ℕ → ℕ → Reason
named p packet number place =
    let f = fields_at (drop place packet) in
    record {
      number = number;
      place = place;
      index = commands_before place packet;
      fields = f;
      address = address_used (pointers_at p packet place) f (drop place packet);
    }

-- Refusals 1 and 2 name no command.
unfoldable pub reason_of : Pointers → List ℕ → Verdict → Reason
reason_of p packet (accepted end) = unnamed 0 0
reason_of p packet (refused number place) = cond (ltb number 3) (unnamed number place) (named p packet number place)

unfoldable pub explained : List ℕ → List ℕ → Pointers → Reason
explained packet store p = reason_of p packet (checked packet store p)

-- From 3 on the bytes before the place alone are an accepted packet, from the same state.
abbrev pub FrontAccepted : List ℕ → List ℕ → Pointers → Reason → Type 0
FrontAccepted packet store p r =
    3 ≤ r.number → (end : Carried) × (checked (take r.place packet) store p ≡ accepted end)
