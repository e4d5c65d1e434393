-- What the program writes, computed.
use mathlib.Core.Path.{◌≡◌, refl}
use mathlib.Core.List.{[], ◌∷◌}
use mathlib.Core.Bool.{Bool, true}
use Rattle.lbp16.specs.Space
use Rattle.packet.specs.Bytes
use Rattle.packet.specs.Step
use Rattle.packet.specs.Rules
use Rattle.cue.specs.Records
use Rattle.cue.specs.Packing
use Rattle.text.specs.Number
use Rattle.text.specs.Number.{ascii}
use Rattle.text.specs.Line
use Rattle.space_text.specs.SpaceText
use Rattle.list_text.specs.Written
use Rattle.cuedis_output.specs.Report
use Rattle.cuedis_output.specs.Report.{said}

-- opens every definition that the examples compute with
all : Bool
unfolding Space.space_of Space.is_absent Space.row Space.area_row Bytes.number Step.is_info Step.row_by Step.carried Step.is_status Step.is_write
    Rules.first Rules.misaligned Rules.past_end Rules.barred Records.mark_at Records.record_kind Records.record_bytes Records.record_space
    Records.bytes_of_value Records.record_step Records.reserved Records.bad_element Records.upper_half Records.record_refusals Records.with_record
    Records.records_from Records.records_of Packing.join_all Number.ascii Number.digit Number.decimal_from Number.decimal Number.hex_digit
    Number.hexadecimal Line.numbered Line.pair_line Line.refused_line Line.too_long_line SpaceText.space_word Written.hex_word Written.kind_word
    Written.value_word Written.line_of Written.text_of Report.usage_line Report.said_of Report.said
all = true

pub one-read : said 1 (0x52 ∷ 0x44 ∷ 6 ∷ 0 ∷ 2 ∷ 0 ∷ []) ≡ ascii "read status 0x0002\n"
unfolding all
one-read = refl

pub bad-mark : said 1 (0x52 ∷ 0x52 ∷ []) ≡ ascii "refused 22 at 0\n"
unfolding all
bad-mark = refl

pub any_word : said 2 [] ≡ ascii "usage: cuedis < LIST\n"
unfolding all
any_word = refl
