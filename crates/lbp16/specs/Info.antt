-- What a space's info area shows, as the INFO AREA sections of document 001 lay it out.
use Rattle.std.specs.Prelude.{ℕ, ◌+◌, ◌*◌, ◌%◌, List, [], ◌∷◌, cond, ltb, replicate}
use Rattle.lbp16.specs.Space.{Space, registers, eeprom, status, information, absent, space_number, is_absent, row}
use Rattle.lbp16.specs.Word.{bit}

-- 01 registers, 0E EEPROM; the document fixes no type for space 7
unfoldable pub memory_type : Space → ℕ
memory_type registers = 0x01
memory_type eeprom = 0x0E
memory_type status = 0x01
memory_type information = 0
memory_type absent = 0

-- MEMSIZES: bit 15 is set where some byte may be written, bits 14 to 8 are the type. Of bits 3 to 0 the one for elements of
-- 2 or of 4 bytes is set: its weight is that size.
unfoldable pub mem_sizes : Space → ℕ
mem_sizes s = bit (ltb (row s).read_only (row s).bytes) * 32768 + memory_type s * 256 + (row s).element

-- MEMRANGES: the erase block and the page are 0 in all but flash, so it is the power of two of the space's bytes.
unfoldable pub mem_ranges : Space → ℕ
mem_ranges registers = 16
mem_ranges eeprom = 7
mem_ranges status = 5
mem_ranges information = 5
mem_ranges absent = 0

-- The area's eight numbers: cookie, sizes, ranges, the low sixteen bits of the space's pointer, and no name. An absent space
-- has no area: all are 0.
unfoldable pub area_words : Space → ℕ → List ℕ
area_words s pointer =
    cond (is_absent s) (replicate 8 0)
    ((0x5A00 + space_number s) ∷ mem_sizes s ∷ mem_ranges s ∷ pointer % 65536 ∷ 0 ∷ 0 ∷ 0 ∷ 0 ∷ [])
