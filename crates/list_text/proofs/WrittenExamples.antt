-- Lists written as text, and texts with names and comments, computed.
use mathlib.Core.Path.{◌≡◌, refl}
use mathlib.Core.List.{[], ◌∷◌, ◌++◌}
use mathlib.Core.Bool.{Bool, true}
use lib.ListN.{replicate}
use Rattle.lbp16.specs.Answer.{Answer}
use Rattle.lbp16.specs.Space
use Rattle.packet.specs.Bytes
use Rattle.packet.specs.Step
use Rattle.packet.specs.Rules
use Rattle.cue.specs.Records
use Rattle.cue.specs.Packing
use Rattle.text.specs.Number
use Rattle.text.specs.Number.{ascii}
use Rattle.text.specs.Find
use Rattle.cue_text.specs.Words
use Rattle.cue_text.specs.Numbers
use Rattle.cue_text.specs.Text
use Rattle.cue_text.specs.Assembled
use Rattle.cue_text.specs.Assembled.{text_assembled}
use Rattle.space_text.specs.SpaceText
use Rattle.list_text.specs.Written
use Rattle.list_text.specs.Written.{list_written}

-- opens every definition that the examples compute with
all : Bool
unfolding Space.space_of Space.space_number Space.is_absent Space.row Space.area_row Bytes.number Bytes.bytes_of Step.is_info Step.row_by Step.carried
    Step.is_status Step.is_write Rules.first Rules.misaligned Rules.past_end Rules.barred Records.mark_at Records.record_kind Records.record_bytes
    Records.record_space Records.bytes_of_value Records.record_step Records.reserved Records.bad_element Records.upper_half Records.record_refusals
    Records.with_record Records.records_from Records.records_of Packing.join_all Number.ascii Number.hex_digit Number.hexadecimal Find.bytes_before
    Find.capital Find.hex_value Find.same_bytes Words.is_blank Words.with_byte Words.lines_of Words.uncommented Words.closed Words.words_from
    Words.words_of Numbers.all_digits Numbers.digits_from Numbers.digits_value Numbers.is_hex Numbers.number_of Numbers.up_to Numbers.address_of
    Numbers.value_of Numbers.space_of Numbers.is_letter Numbers.is_name_byte Numbers.starts_with_letter
    Numbers.is_keyword Numbers.is_name Text.read_form Text.write_form Text.name_form Text.form_of Text.place_by Text.place_of Text.is_known
    Text.bytes_of_cue Text.step_of Text.record_meaning Text.read_meaning Text.write_meaning Text.name_meaning Text.form_meaning Text.line_meaning
    Assembled.with_cue Assembled.known_after Assembled.index_after Assembled.with_line Assembled.assembled_from Assembled.assembled Assembled.list_of
    Assembled.placed Assembled.assembled_to Assembled.text_assembled SpaceText.space_word Written.hex_word Written.kind_word Written.value_word
    Written.line_of Written.text_of Written.written_to Written.list_written
all = true

-- one line of each kind, with an element of each size
pub lines-written : list_written
    (0x52 ∷ 0x44 ∷ 0 ∷ 0 ∷ 0x10 ∷ 0 ∷ 0x57 ∷ 0x52 ∷ 2 ∷ 0 ∷ 0x22 ∷ 0 ∷ 0xA8 ∷ 0xC0 ∷ 0 ∷ 0 ∷ 0x57 ∷ 0x52 ∷ 0 ∷ 0 ∷ 4 ∷ 0x20 ∷ 1 ∷ 2 ∷ 0xF3 ∷ 4 ∷ [])
    (replicate 85 7)
    ≡ record {
      answer = Answer.accepted (83 ∷ 3 ∷ []);
      room = ascii "read registers 0x0010\nwrite eeprom 0x0022 0xC0A8\nwrite registers 0x2004 0x04F30201\n" ++ (7 ∷ 7 ∷ []);
    }
unfolding all
lines-written = refl

-- the compiler's own refusal, and a room that is one byte too small
pub bad_record : list_written (0x52 ∷ 0x44 ∷ 0 ∷ 0 ∷ 0x10 ∷ 0 ∷ 0x52 ∷ 0x44 ∷ []) (7 ∷ [])
    ≡ record { answer = Answer.refused 22 1; room = 7 ∷ [] }
unfolding all
bad_record = refl

pub too_small : list_written (0x52 ∷ 0x44 ∷ 6 ∷ 0 ∷ 2 ∷ 0 ∷ []) (replicate 18 7) ≡ record { answer = Answer.refused 26 19; room = replicate 18 7 }
unfolding all
too_small = refl

-- what was written, assembled
pub read_again : text_assembled (ascii "read registers 0x0010\nwrite eeprom 0x0022 0xC0A8\n") (replicate 16 7)
    ≡ record {
      answer = Answer.accepted (16 ∷ 2 ∷ []);
      room = 0x52 ∷ 0x44 ∷ 0 ∷ 0 ∷ 0x10 ∷ 0 ∷ 0x57 ∷ 0x52 ∷ 2 ∷ 0 ∷ 0x22 ∷ 0 ∷ 0xA8 ∷ 0xC0 ∷ 0 ∷ 0 ∷ [];
    }
unfolding all
read_again = refl

-- a name, a comment and no newline at the end
pub with_name : text_assembled (ascii "name lamp registers 0x10 # the lamp\n\nread lamp") (replicate 6 7)
    ≡ record { answer = Answer.accepted (6 ∷ 1 ∷ []); room = 0x52 ∷ 0x44 ∷ 0 ∷ 0 ∷ 0x10 ∷ 0 ∷ [] }
unfolding all
with_name = refl
