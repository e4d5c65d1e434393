-- Document 02's words on lists in parts, computed: P7's list cut inside its first record, faults, and refusals 26 and 1.
use Prim.Native.Nat.{ℕ}
use mathlib.Core.Path.{◌≡◌, refl}
use mathlib.Core.List.{List, [], ◌∷◌}
use mathlib.Core.Bool.{Bool, true, false}
use lib.ListN.{take, replicate}
use Rattle.lbp16.specs.Answer.{accepted, refused}
use Rattle.lbp16.specs.Space
use Rattle.lbp16.specs.Word
use Rattle.packet.specs.Bytes
use Rattle.packet.specs.Step
use Rattle.packet.specs.Rules
use Rattle.cue.specs.Records
use Rattle.cue.specs.Summary
use Rattle.parts.specs.Taking
use Rattle.parts.specs.State
use Rattle.parts.specs.Parts
use Rattle.parts.specs.Parts.{PartCall, part_of}
use Rattle.parts.specs.Promise
use Rattle.parts.specs.Promise.{fresh_state}

-- opens every definition that the examples compute with
all : Bool
unfolding Space.space_of Space.space_number Space.area_row Space.is_absent Space.row Word.bit Word.word_of Bytes.number Bytes.bytes_of
    Step.is_info Step.row_by Step.carried Step.answered Step.is_status Step.is_write Step.names_unlock Rules.first Rules.misaligned
    Rules.past_end Rules.barred
    Records.mark_at Records.record_kind Records.record_bytes Records.record_space Records.bytes_of_value Records.record_step
    Records.reserved Records.bad_element Records.upper_half Records.record_refusals
    Records.brief Summary.carried_by Summary.answered_by Summary.summary Summary.agrees Summary.fits Summary.joined_by Summary.unlock_for
    Summary.started_by Summary.closed_by Summary.turned_by Summary.bytes_of_mark Summary.last_fields Summary.bytes_of_header Summary.framed_at
    Summary.unlocked_at Summary.headed_at Summary.wrote
    Taking.unknown_mark Taking.decided_at Taking.faulted_by Taking.record_taken Taking.byte_taken Taking.is_going Taking.goes_on
    Taking.one_more Taking.bytes_taken Taking.end_taken Taking.part_taken Taking.answer_by Taking.answered Taking.called
    State.unopened State.written State.held_turned State.held_packing State.pair_at State.packer_at State.standing_of State.state_of
    State.bad_numbers State.bad_state State.standing_byte State.padded State.number_bytes State.bytes_of_packer State.bytes_of_state
    Parts.untouched Parts.leaves Parts.part_of Promise.fresh_state
all = true

room : List ℕ
room = replicate 1476 0

first : PartCall
first = part_of fresh_state (0x57 ∷ 0x52 ∷ 0x02 ∷ []) false room

second : PartCall
second =
    part_of first.state
    (0x00 ∷ 0x20 ∷ 0x00 ∷ 0x20 ∷ 0x00 ∷ 0x00 ∷ 0x00
    ∷ 0x57 ∷ 0x52 ∷ 0x02 ∷ 0x00 ∷ 0x22 ∷ 0x00 ∷ 0xA8 ∷ 0xC0 ∷ 0x00 ∷ 0x00 ∷ [])
    true
    room

third : PartCall
third = part_of second.state [] true room

cut_in_record : (first.answer ≡ accepted (0 ∷ [])) × (first.taken ≡ 3)
unfolding all first room
cut_in_record = (refl, refl)

handed-out_at_end : (second.answer ≡ accepted (18 ∷ [])) × (second.taken ≡ 17)
    × (take 18 second.room
    ≡ 0x4C ∷ 0x42 ∷ 0x0E ∷ 0x00 ∷ 0x01 ∷ 0xD9 ∷ 0x1A ∷ 0x00 ∷ 0x02 ∷ 0x5A
    ∷ 0x82 ∷ 0xC9 ∷ 0x20 ∷ 0x00 ∷ 0x20 ∷ 0x00 ∷ 0xA8 ∷ 0xC0 ∷ [])
unfolding all first second room
handed-out_at_end = (refl, refl, refl)

nothing-more : (third.answer ≡ accepted (0 ∷ [])) × (third.taken ≡ 0)
unfolding all first second third room
nothing-more = (refl, refl)

unknown-mark : let c = part_of fresh_state (0x58 ∷ 0x59 ∷ 0x5A ∷ []) false room in (c.answer ≡ refused 22 0) × (c.taken ≡ 2)
unfolding all room
unknown-mark = (refl, refl)

mark-alone : let c = part_of fresh_state (0x52 ∷ 0x44 ∷ []) true room in (c.answer ≡ refused 22 0) × (c.taken ≡ 2)
unfolding all room
mark-alone = (refl, refl)

room-first : (part_of [] [] true (replicate 1475 0)).answer ≡ refused 26 1476
unfolding all
room-first = refl

other-state : (part_of [] [] true room).answer ≡ refused 1 0
unfolding all room
other-state = refl
