-- What is wrong with some lists, computed.
use Prim.Native.Nat.{ℕ}
use mathlib.Core.Path.{◌≡◌, refl}
use mathlib.Core.List.{List, [], ◌∷◌, ◌++◌}
use mathlib.Core.Bool.{Bool, true}
use Rattle.lbp16.specs.Space
use Rattle.packet.specs.Bytes
use Rattle.packet.specs.Step
use Rattle.packet.specs.Rules
use Rattle.cue.specs.Records
use Rattle.list_reason.specs.ListReason
use Rattle.list_reason.specs.ListReason.{list_why, walked}
use Rattle.list_reason.specs.ListReason.{ListWhy}

-- opens every definition that the examples compute with
all : Bool
unfolding Space.space_of Space.is_absent Space.row Space.area_row Bytes.number Step.is_info Step.row_by Step.carried Step.is_status Step.is_write
    Rules.first Rules.misaligned Rules.past_end Rules.barred Records.mark_at Records.record_kind Records.record_bytes Records.record_space
    Records.bytes_of_value Records.record_step Records.reserved Records.bad_element Records.upper_half Records.record_refusals Records.with_record
    Records.records_from Records.records_of ListReason.mark_causes ListReason.element_causes ListReason.value_causes ListReason.causes_of
    ListReason.offset_of ListReason.walked_by ListReason.walked ListReason.why_by ListReason.list_why
all = true

abbrev why : ℕ → ℕ → ℕ → ℕ → ListWhy
why number place offset cause = record { number = number; place = place; offset = offset; cause = cause }

-- a read of register 0x10, and a write
abbrev good : List ℕ
good = 0x52 ∷ 0x44 ∷ 0 ∷ 0 ∷ 0x10 ∷ 0 ∷ 0x57 ∷ 0x52 ∷ 0 ∷ 0 ∷ 0x10 ∷ 0 ∷ 1 ∷ 0 ∷ 0 ∷ 0 ∷ []

pub nothing : list_why good ≡ why 0 0 0 0
unfolding all
nothing = refl

pub counted : walked good ≡ record { number = 0; records = 2; bytes = 16 }
unfolding all
counted = refl

-- 22: a mark that is none; one that is alone, and half of one
pub other-mark : list_why (good ++ (0x52 ∷ 0x52 ∷ [])) ≡ why 22 2 16 1
unfolding all
other-mark = refl

pub cut_record : list_why (good ++ (0x52 ∷ 0x44 ∷ [])) ≡ why 22 2 16 2
unfolding all
cut_record = refl

pub one_byte : list_why (good ++ (0x51 ∷ [])) ≡ why 22 2 16 2
unfolding all
one_byte = refl

-- 23: reads of space 3, of register 2, of 0x80 of the EEPROM, a write to 0x10 of it, reads of the two cells of space 6
pub no_space : list_why (good ++ (0x52 ∷ 0x44 ∷ 3 ∷ 0 ∷ 0x11 ∷ 0 ∷ [])) ≡ why 23 2 16 1
unfolding all
no_space = refl

pub odd-address : list_why (good ++ (0x52 ∷ 0x44 ∷ 0 ∷ 1 ∷ 2 ∷ 0 ∷ [])) ≡ why 23 2 16 2
unfolding all
odd-address = refl

pub past_end_lem : list_why (good ++ (0x52 ∷ 0x44 ∷ 2 ∷ 0 ∷ 0x80 ∷ 0 ∷ [])) ≡ why 23 2 16 3
unfolding all
past_end_lem = refl

pub read_only : list_why (good ++ (0x57 ∷ 0x52 ∷ 2 ∷ 0 ∷ 0x10 ∷ 0 ∷ 0xA8 ∷ 0xC0 ∷ 0 ∷ 0 ∷ [])) ≡ why 23 2 16 4
unfolding all
read_only = refl

pub unlock-cell : list_why (good ++ (0x52 ∷ 0x44 ∷ 6 ∷ 0 ∷ 0x1A ∷ 0 ∷ [])) ≡ why 23 2 16 5
unfolding all
unlock-cell = refl

pub packet-count : list_why (good ++ (0x52 ∷ 0x44 ∷ 6 ∷ 0 ∷ 0x0A ∷ 0 ∷ [])) ≡ why 23 2 16 6
unfolding all
packet-count = refl

-- 24
pub spare-byte : list_why (good ++ (0x57 ∷ 0x52 ∷ 2 ∷ 1 ∷ 0x20 ∷ 0 ∷ 0 ∷ 0 ∷ 1 ∷ 0 ∷ [])) ≡ why 24 2 16 1
unfolding all
spare-byte = refl

pub too_wide : list_why (good ++ (0x57 ∷ 0x52 ∷ 2 ∷ 0 ∷ 0x20 ∷ 0 ∷ 0 ∷ 0 ∷ 1 ∷ 0 ∷ [])) ≡ why 24 2 16 2
unfolding all
too_wide = refl
