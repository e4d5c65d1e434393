-- What the program writes for document 01's examples and at the limit.
use mathlib.Core.Path.{◌≡◌, refl}
use mathlib.Core.List.{[], ◌∷◌}
use mathlib.Core.Bool.{Bool, true}
use lib.ListN.{replicate}
use Rattle.lbp16.specs.Space
use Rattle.lbp16.specs.Word
use Rattle.packet.specs.Bytes
use Rattle.packet.specs.Step
use Rattle.packet.specs.Rules
use Rattle.cue.specs.Records
use Rattle.cue.specs.Packing
use Rattle.cue.specs.Output
use Rattle.cue.specs.Compile
use Rattle.text.specs.Number
use Rattle.text.specs.Number.{ascii}
use Rattle.text.specs.Line
use Rattle.cuec_output.specs.Report
use Rattle.cuec_output.specs.Report.{said}

-- opens every definition that the examples compute with
all : Bool
unfolding Space.space_of Space.space_number Space.is_absent Space.row Space.area_row Word.bit Word.word_of Bytes.number Bytes.bytes_of Step.is_info
    Step.row_by Step.carried Step.answered Step.reply_bytes Step.is_status Step.is_write Step.names_unlock Step.unlocked_after Step.unlocked Rules.first
    Rules.misaligned Rules.past_end Rules.barred Records.mark_at Records.record_kind Records.record_bytes Records.record_space Records.bytes_of_value
    Records.record_step Records.reserved Records.bad_element Records.upper_half Records.record_refusals Records.with_record Records.records_from
    Records.records_of Packing.command_fields Packing.join_all Packing.bytes_of_command Packing.bytes_of_packet Packing.element_steps Packing.command_steps
    Packing.packet_steps Packing.unlock_command Packing.keeps_limits Packing.commands_of Packing.same_kind Packing.joined Packing.joins
    Packing.needs_unlock Packing.started Packing.turn_by Packing.turn Packing.pack_from Packing.packets Output.framed Output.output_of
    Compile.packed Compile.output Compile.compiled_to Compile.compiled Number.ascii Number.digit Number.decimal_from Number.decimal Line.numbered
    Line.pair_line Line.refused_line Line.too_long_line Report.bytes_of_answer Report.bytes_of_compiled Report.said
all = true

-- the two bytes "RD" alone
pub mark-alone : said (0x52 ∷ 0x44 ∷ []) ≡ ascii "refused 22 at 0\n"
unfolding all
mark-alone = refl

pub empty-list : said [] ≡ []
unfolding all
empty-list = refl

-- P7
pub two-writes : said
    (0x57 ∷ 0x52 ∷ 2 ∷ 0 ∷ 0x20 ∷ 0 ∷ 0x20 ∷ 0 ∷ 0 ∷ 0 ∷ 0x57 ∷ 0x52 ∷ 2 ∷ 0 ∷ 0x22 ∷ 0 ∷ 0xA8 ∷ 0xC0 ∷ 0 ∷ 0 ∷ [])
    ≡ 0x4C ∷ 0x42 ∷ 0x0E ∷ 0x00 ∷ 0x01 ∷ 0xD9 ∷ 0x1A ∷ 0x00 ∷ 0x02 ∷ 0x5A ∷ 0x82 ∷ 0xC9 ∷ 0x20 ∷ 0x00 ∷ 0x20 ∷ 0x00 ∷ 0xA8
    ∷ 0xC0 ∷ []
unfolding all
two-writes = refl

-- the most bytes that are taken, and one more
pub at-limit : said (replicate 16384 0) ≡ ascii "refused 22 at 0\n"
unfolding all
at-limit = refl

pub past-limit : said (replicate 16385 0) ≡ ascii "too long\n"
unfolding all
past-limit = refl
