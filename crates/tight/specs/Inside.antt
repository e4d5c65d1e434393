-- The inside of private functions' contracts: pointers that no command may use, and steps taken off the front of a list's
-- bytes.
use Rattle.std.specs.Prelude.{ℕ, ◌+◌, List, [], ◌∷◌, Bool, not, ◌&&◌, cond, length, drop, ltb, Option, Some, None}
use Rattle.lbp16.specs.Space.{space_of}
use Rattle.lbp16.specs.Pointer.{pointer}
use Rattle.lbp16.specs.declared.pointer.SpacePointers.{SpacePointers}
use Rattle.lbp16.specs.declared.pointer.Pointers.{Pointers}
use Rattle.packet.specs.Step.{Step}
use Rattle.packet.specs.Command.{limit, pick_kind, payload}
use Rattle.packet.specs.Judge.{judge}
use Rattle.cue.specs.Records.{record_step, record_kind, record_bytes}
use Rattle.cue.specs.Output.{Front}
use Rattle.tight.specs.Tight.{Checked, accepted, rejected, unlocks, same_step, Doing, none, steps, done_by, packet_does}

-- where a pointer stands that its packet has not set
abbrev pub unset_address : ℕ
unset_address = 65537

-- Pointers that no command may use: that address is no multiple of any element size, so a command that takes its
-- address from one of these before its packet has set it is refused.
unfoldable pub unset_spaces : SpacePointers
unset_spaces =
    record {
      registers = pointer unset_address;
      eeprom = pointer unset_address;
      status = pointer unset_address;
      information = pointer unset_address;
    }

unfoldable pub unset : Pointers
unset = record { plain = unset_spaces; info = unset_spaces }

-- The steps of a packet that is accepted from these: those of `packet_does`, info commands apart (`PointerLaws.does-is`).
unfoldable pub from_unset : List ℕ → Doing
from_unset packet = cond (ltb limit (length packet)) none (done_by (judge unset packet))

-- One step at the front of a list's bytes: an unlock write takes none, any other takes the record that is the same.
unfoldable pub step_takes : Step → List ℕ → Option ℕ
step_takes s rest =
    cond (unlocks s) (Some 0)
    (cond (not (ltb (length rest) (record_bytes (record_kind rest))) && same_step s (record_step rest))
    (Some (record_bytes (record_kind rest))) None)

-- an element of a command as a step: `bytes` are the command's from that element on
unfoldable pub element_step : Bool → ℕ → ℕ → List ℕ → Step
element_step write space address bytes =
    let k = pick_kind write in
    let s = space_of space in
    record { kind = k; space = s; address = address; bytes = payload k s bytes }

-- k bytes more
unfoldable pub further : ℕ → Option ℕ → Option ℕ
further k None = None
further k (Some n) = Some (k + n)

-- the bytes that a first part takes, then those of a second part, told where it begins
unfoldable pub and_then : Option ℕ → (ℕ → Option ℕ) → Option ℕ
and_then None f = None
and_then (Some k) f = further k (f k)

unfoldable pub steps_take : List Step → List ℕ → Option ℕ
steps_take [] rest = Some 0
steps_take (s ∷ ss) rest = and_then (step_takes s rest) (λ k. steps_take ss (drop k rest))

unfoldable pub doing_takes : Doing → List ℕ → Option ℕ
doing_takes none rest = None
doing_takes (steps ss) rest = steps_take ss rest

unfoldable pub packet_takes : List ℕ → List ℕ → Option ℕ
packet_takes packet rest = doing_takes (packet_does packet) rest

-- a whole frame at the front of a proposal's bytes
unfoldable pub frame_takes : Front → Option ℕ
frame_takes Front.end = None
frame_takes Front.cut = None
frame_takes Front.unmarked = None
frame_takes (Front.frame n) = Some n

-- the packets of a proposal that may stand, counted
unfoldable pub count_listed : Option ℕ → Checked
count_listed None = rejected
count_listed (Some n) = accepted n
