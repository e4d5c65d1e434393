-- Accounts of damaged lists, computed.
use mathlib.Core.Path.{◌≡◌, refl}
use mathlib.Core.List.{[], ◌∷◌}
use mathlib.Core.Bool.{Bool, true}
use Rattle.lbp16.specs.Space
use Rattle.packet.specs.Bytes
use Rattle.packet.specs.Step
use Rattle.packet.specs.Rules
use Rattle.cue.specs.Records
use Rattle.salvage.specs.Salvage
use Rattle.text.specs.Number
use Rattle.text.specs.Number.{ascii}
use Rattle.text.specs.Line
use Rattle.cuefix_output.specs.Account
use Rattle.cuefix_output.specs.Account.{account_of}

-- opens every definition that the examples compute with
all : Bool
unfolding Space.space_of Space.area_row Space.is_absent Space.row Bytes.number Step.is_info Step.row_by Step.carried
    Step.is_status Step.is_write Step.names_unlock Rules.first Rules.misaligned Rules.past_end Rules.barred Records.mark_at
    Records.record_kind Records.record_bytes Records.record_space Records.bytes_of_value Records.record_step Records.reserved
    Records.bad_element Records.upper_half Records.record_refusals Salvage.stands Salvage.size_at Salvage.skip
    Salvage.scan_from Salvage.scan Salvage.bytes_of_kept Salvage.log_from Salvage.kept_count Salvage.output Salvage.logged
    Number.ascii Number.digit Number.decimal_from Number.decimal Number.hex_digit Number.hexadecimal Number.bytes_of_hex Line.numbered
    Line.pair_line Account.skipped_line Account.record_line Account.last_from Account.look_line Account.lines_of Account.kept_line Account.account_of
all = true

-- a write that lost a byte takes the next record's first for it
pub lost : account_of (0x57 ∷ 0x52 ∷ 0 ∷ 0 ∷ 0 ∷ 0 ∷ 1 ∷ 2 ∷ 3 ∷ 0x52 ∷ 0x44 ∷ 0 ∷ 0 ∷ 0 ∷ 0 ∷ [])
    ≡ ascii "record at 0, 57 52 00 00 00 00 01 02 03 52: look at it\nskipped 5 at 10\nkept records 1, bytes 10\n"
unfolding all
lost = refl

-- of several records before a stretch the last is shown, and of none nothing
pub last-shown : account_of
    (0xFF ∷ 0x57 ∷ 0x52 ∷ 0 ∷ 0 ∷ 0 ∷ 0 ∷ 0x52 ∷ 0x44 ∷ 0 ∷ 0 ∷ 0x52 ∷ 0x44 ∷ 0 ∷ 0 ∷ 4 ∷ 0 ∷ 0xFF ∷ [])
    ≡ ascii "skipped 1 at 0\nrecord at 11, 52 44 00 00 04 00: look at it\nskipped 1 at 17\nkept records 2, bytes 16\n"
unfolding all
last-shown = refl
