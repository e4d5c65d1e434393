-- A read in two parts and the list's end, and a mark that is unknown, computed.
use mathlib.Core.Path.{◌≡◌, refl}
use mathlib.Core.List.{[], ◌∷◌}
use mathlib.Core.Bool.{Bool, true, false}
use Rattle.lbp16.specs.Space
use Rattle.lbp16.specs.Word
use Rattle.packet.specs.Bytes
use Rattle.packet.specs.Step
use Rattle.packet.specs.Rules
use Rattle.cue.specs.Records
use Rattle.cue.specs.Summary
use Rattle.parts.specs.Taking
use Rattle.parts.specs.State
use Rattle.parts.specs.Parts
use Rattle.parts.specs.Promise
use Rattle.parts.specs.Promise.{fresh_state}
use Rattle.text.specs.Number
use Rattle.text.specs.Number.{ascii}
use Rattle.text.specs.Line
use Rattle.cuec_output.specs.Report
use Rattle.cuepipe_output.specs.Feed
use Rattle.cuepipe_output.specs.Feed.{Fed, fed_of}

-- opens every definition that the examples compute with
all : Bool
unfolding Space.space_of Space.space_number Space.area_row Space.is_absent Space.row Word.bit Word.word_of Bytes.number Bytes.bytes_of
    Step.is_info Step.row_by Step.carried Step.answered Step.is_status Step.is_write Step.names_unlock Rules.first Rules.misaligned
    Rules.past_end Rules.barred
    Records.mark_at Records.record_kind Records.record_bytes Records.record_space Records.bytes_of_value Records.record_step
    Records.reserved Records.bad_element Records.upper_half Records.record_refusals
    Records.brief Summary.carried_by Summary.answered_by Summary.summary Summary.agrees Summary.fits Summary.joined_by Summary.unlock_for
    Summary.started_by Summary.closed_by Summary.turned_by Summary.bytes_of_mark Summary.last_fields Summary.bytes_of_header Summary.framed_at
    Summary.unlocked_at Summary.headed_at Summary.wrote
    Taking.unknown_mark Taking.decided_at Taking.faulted_by Taking.record_taken Taking.byte_taken Taking.is_going Taking.goes_on
    Taking.one_more Taking.bytes_taken Taking.end_taken Taking.part_taken Taking.answer_by Taking.answered Taking.called
    State.unopened State.written State.held_turned State.held_packing State.pair_at State.packer_at State.standing_of State.state_of
    State.bad_numbers State.bad_state State.standing_byte State.padded State.number_bytes State.bytes_of_packer State.bytes_of_state
    Parts.untouched Parts.leaves Parts.part_of Promise.fresh_state
    Number.ascii Number.digit Number.decimal_from Number.decimal Line.numbered Line.pair_line Line.refused_line Report.bytes_of_answer
    Feed.called_on Feed.said_of Feed.is_refused Feed.stops Feed.fed_by Feed.fed_from Feed.fed_of
all = true

first : Fed
first = fed_of fresh_state (0x52 ∷ 0x44 ∷ [])

second : Fed
second = fed_of first.state (0 ∷ 0 ∷ 0x10 ∷ 0 ∷ [])

nothing_yet : (second.text ≡ []) × (second.more ≡ true)
unfolding all first second
nothing_yet = (refl, refl)

at_the_end : ((fed_of second.state []).text ≡ 0x4C ∷ 0x42 ∷ 4 ∷ 0 ∷ 0x81 ∷ 0x42 ∷ 0x10 ∷ 0 ∷ []) × ((fed_of second.state []).more ≡ false)
unfolding all first second
at_the_end = (refl, refl)

cut : (fed_of first.state []).text ≡ ascii "refused 22 at 0\n"
unfolding all first
cut = refl

unknown-mark : ((fed_of fresh_state (0x58 ∷ 0x59 ∷ 0x5A ∷ [])).text ≡ ascii "refused 22 at 0\n")
    × ((fed_of fresh_state (0x58 ∷ 0x59 ∷ 0x5A ∷ [])).more ≡ false)
unfolding all
unknown-mark = (refl, refl)
