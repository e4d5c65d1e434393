-- Texts, small enough to be read, with the records or the refusal of each.
use mathlib.Core.Path.{◌≡◌, refl}
use mathlib.Core.List.{[], ◌∷◌, ◌++◌}
use mathlib.Core.Bool.{Bool, true}
use lib.ListN.{replicate}
use Rattle.text.specs.Number
use Rattle.text.specs.Number.{ascii}
use Rattle.text.specs.Find
use Rattle.lbp16.specs.Answer.{accepted, refused}
use Rattle.lbp16.specs.Space
use Rattle.packet.specs.Bytes
use Rattle.packet.specs.Step
use Rattle.packet.specs.Rules
use Rattle.cue.specs.Records
use Rattle.cue.specs.Packing
use Rattle.cue_text.specs.Words
use Rattle.cue_text.specs.Numbers
use Rattle.cue_text.specs.Text
use Rattle.cue_text.specs.Text.{read_of, write_of, line_meaning, does, defines}
use Rattle.cue_text.specs.Assembled
use Rattle.cue_text.specs.Assembled.{assembled, cues, bad, list_of, text_assembled}

-- opens every definition that the examples compute with
all : Bool
unfolding Number.ascii Find.bytes_before Find.capital Find.hex_value Find.same_bytes Space.space_of Space.area_row Space.is_absent Space.row
    Bytes.number Bytes.bytes_of Step.is_info Step.row_by Step.carried Step.is_status Step.is_write Rules.first Rules.misaligned Rules.past_end
    Rules.barred Records.mark_at Records.record_kind Records.record_bytes Records.record_space Records.bytes_of_value Records.record_step
    Records.reserved Records.bad_element Records.upper_half Records.record_refusals Packing.join_all Words.is_blank Words.with_byte Words.lines_of
    Words.uncommented Words.closed Words.words_from Words.words_of Numbers.all_digits Numbers.digits_from Numbers.digits_value Numbers.is_hex
    Numbers.number_of Numbers.up_to Numbers.address_of Numbers.value_of Numbers.space_of Numbers.is_letter Numbers.is_name_byte
    Numbers.starts_with_letter Numbers.is_keyword Numbers.is_name Text.read_form Text.write_form Text.name_form Text.form_of
    Text.place_by Text.place_of Text.is_known Text.bytes_of_cue Text.record_meaning Text.read_meaning Text.write_meaning Text.name_meaning
    Text.form_meaning Text.line_meaning Assembled.with_cue Assembled.known_after Assembled.index_after Assembled.with_line Assembled.assembled_from
    Assembled.assembled Assembled.list_of Assembled.placed Assembled.assembled_to Assembled.text_assembled
all = true

-- the five forms, with comments, an empty line, and no newline at the end
pub forms : assembled (ascii "name lamp registers 0x200C # the lamp\nread lamp\n\nwrite lamp 1\nread eeprom 0x0022#x\nwrite 2 34 0xC0a8")
    ≡ cues (read_of 0 0x200C ∷ write_of 0 0x200C 1 ∷ read_of 2 0x22 ∷ write_of 2 0x22 0xC0A8 ∷ [])
unfolding all
forms = refl

-- the list that comes out
pub bytes : list_of (read_of 0 0x2000 ∷ write_of 2 0x22 0xC0A8 ∷ [])
    ≡ 0x52 ∷ 0x44 ∷ 0 ∷ 0 ∷ 0x00 ∷ 0x20 ∷ 0x57 ∷ 0x52 ∷ 2 ∷ 0 ∷ 0x22 ∷ 0x00 ∷ 0xA8 ∷ 0xC0 ∷ 0x00 ∷ 0x00 ∷ []
unfolding all
bytes = refl

-- words stand apart by blanks, tabs and carriage returns
pub apart : assembled (9 ∷ ascii "read" ++ (32 ∷ 9 ∷ 32 ∷ []) ++ ascii "status" ++ (13 ∷ []) ++ ascii "6" ++ (13 ∷ 10 ∷ [])) ≡ cues (read_of 6 6 ∷ [])
unfolding all
apart = refl

-- no text, and lines that say nothing
pub nothing_said : (assembled [] ≡ cues []) × (assembled (ascii "\n # read\n") ≡ cues [])
unfolding all
nothing_said = (refl, refl)

-- zeros in front, and the largest value
pub numbers : assembled (ascii "write 000 0X00000 0xffffFFFF\nread 0x007 00000000000000000000000000000030\nwrite 0 4 4294967295")
    ≡ cues (write_of 0 0 0xFFFFFFFF ∷ read_of 7 30 ∷ write_of 0 4 0xFFFFFFFF ∷ [])
unfolding all
numbers = refl

-- 81: no form; the first word counts with the number of words, and capitals differ
pub no_form : (assembled (ascii "\nreads 0 0\n") ≡ bad 81 2) × (assembled (ascii "read\n") ≡ bad 81 1) × (assembled (ascii "read 0 0 0\n") ≡ bad 81 1)
    × (assembled (ascii "write lamp\n") ≡ bad 81 1) × (assembled (ascii "write 0 0 0 0\n") ≡ bad 81 1) × (assembled (ascii "name lamp 0\n") ≡ bad 81 1)
    × (assembled (ascii "name lamp 0 0 0\n") ≡ bad 81 1) × (assembled (ascii "Read 0 0\n") ≡ bad 81 1)
unfolding all
no_form = (refl, refl, refl, refl, refl, refl, refl, refl)

-- 82: no space, no address, no value, or one too large; a value is looked at before a name
pub no_number : (assembled (ascii "read lamp 0x10") ≡ bad 82 1) × (assembled (ascii "read 256 0") ≡ bad 82 1) × (assembled (ascii "read 0 65536") ≡ bad 82 1)
    × (assembled (ascii "write 0 0 4294967296") ≡ bad 82 1) × (assembled (ascii "write 0 0 0x10000000000000000") ≡ bad 82 1)
    × (assembled (ascii "write lamp 0x") ≡ bad 82 1) × (assembled (ascii "read 0 -4") ≡ bad 82 1) × (assembled (ascii "name read 0 0g") ≡ bad 82 1)
    × (assembled (ascii "read Status 0") ≡ bad 82 1) × (assembled (ascii "read 0 0A") ≡ bad 82 1)
unfolding all
no_number = (refl, refl, refl, refl, refl, refl, refl, refl, refl, refl)

-- 83: no name, one that is not known, or not yet, and one defined twice
pub no_name : (assembled (ascii "read 7\n") ≡ bad 83 1) × (assembled (ascii "read lamp\nname lamp 0 0\n") ≡ bad 83 1)
    × (assembled (ascii "write lamp 1") ≡ bad 83 1)
    × (assembled (ascii "name eeprom 0 0") ≡ bad 83 1) × (assembled (ascii "name 1a 0 0") ≡ bad 83 1) × (assembled (ascii "name a+b 0 0") ≡ bad 83 1)
    × (assembled (ascii "name a 0 0\nname A 0 0\nname a 0 4") ≡ bad 83 3)
    × (assembled (ascii "name a23456789012345678901234567890123 0 0") ≡ bad 83 1) × (assembled (ascii "name a2345678901234567890123456789-_. 0 0") ≡ cues [])
unfolding all
no_name = (refl, refl, refl, refl, refl, refl, refl, refl, refl)

-- 23 and 24 as the compiler refuses the record; a name as a read
pub no_element : (assembled (ascii "read 0 0\n#\nread 0 2\n") ≡ bad 23 3) × (assembled (ascii "write eeprom 0x1E 0") ≡ bad 23 1)
    × (assembled (ascii "read 1 0") ≡ bad 23 1)
    × (assembled (ascii "name a status 0x1A") ≡ bad 23 1) × (assembled (ascii "name a eeprom 0x1E\nread a\nwrite a 0") ≡ bad 23 3)
    × (assembled (ascii "write status 0 65536") ≡ bad 24 1)
unfolding all
no_element = (refl, refl, refl, refl, refl, refl)

-- 21: one record too many, where a line that is no record may stand
pub too_many : (line_meaning [] 100000 (ascii "read 0 0") ≡ Text.refused 21) × (line_meaning [] 99999 (ascii "read 0 0") ≡ does (read_of 0 0))
    × (line_meaning [] 100000 (ascii "name a 0 0") ≡ defines (record { name = ascii "a"; space = 0; address = 0 }))
unfolding all
too_many = (refl, refl, refl)

-- 83: one name too many
pub too_many-names : line_meaning (replicate 1000 (record { name = ascii "a"; space = 0; address = 0 })) 0 (ascii "name b 0 0") ≡ Text.refused 83
unfolding all
too_many-names = refl

-- the earliest line, whatever stands below it; then 26; room beyond the list is unchanged
pub rooms : (text_assembled (ascii "read 0 0\nread 0 x\nreads") [] ≡ record { answer = refused 82 2; room = [] })
    × (text_assembled (ascii "read 0 0") (replicate 5 0xEE) ≡ record { answer = refused 26 6; room = replicate 5 0xEE })
    × (text_assembled (ascii "read 0 0") (replicate 7 0xEE)
    ≡ record { answer = accepted (6 ∷ 1 ∷ []); room = 0x52 ∷ 0x44 ∷ 0 ∷ 0 ∷ 0 ∷ 0 ∷ 0xEE ∷ [] })
unfolding all
rooms = (refl, refl, refl)
