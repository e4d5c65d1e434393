-- Damaged lists, small enough to be read, with what is kept and skipped of each.
use Prim.Native.Nat.{ℕ}
use mathlib.Core.Path.{◌≡◌, refl}
use mathlib.Core.List.{List, [], ◌∷◌, ◌++◌}
use mathlib.Core.Bool.{Bool, true}
use lib.ListN.{replicate}
use Rattle.lbp16.specs.Answer.{accepted, refused}
use Rattle.lbp16.specs.Space
use Rattle.packet.specs.Bytes
use Rattle.packet.specs.Step
use Rattle.packet.specs.Rules
use Rattle.cue.specs.Records
use Rattle.salvage.specs.Salvage
use Rattle.salvage.specs.Salvage.{salvaged, output, logged}

-- opens every definition that the examples compute with
all : Bool
unfolding Space.space_of Space.area_row Space.is_absent Space.row Bytes.number Step.is_info Step.row_by Step.carried
    Step.is_status Step.is_write Step.names_unlock Rules.first Rules.misaligned Rules.past_end Rules.barred Records.mark_at
    Records.record_kind Records.record_bytes Records.record_space Records.bytes_of_value Records.record_step Records.reserved
    Records.bad_element Records.upper_half Records.record_refusals Salvage.stands Salvage.size_at Salvage.skip
    Salvage.scan_from Salvage.scan Salvage.bytes_of_kept Salvage.log_from Salvage.kept_count Salvage.entry_count Salvage.output
    Salvage.logged Salvage.entries Salvage.salvaged
all = true

-- read space 0 at 0x2000; write 1 to space 0 at 0x200C
abbrev reading : List ℕ
reading = 0x52 ∷ 0x44 ∷ 0 ∷ 0 ∷ 0x00 ∷ 0x20 ∷ []

abbrev writing : List ℕ
writing = 0x57 ∷ 0x52 ∷ 0 ∷ 0 ∷ 0x0C ∷ 0x20 ∷ 1 ∷ 0 ∷ 0 ∷ 0 ∷ []

-- a good list
pub good : (output (reading ++ writing) ≡ reading ++ writing) × (logged (reading ++ writing) ≡ [])
unfolding all
good = (refl, refl)

-- bytes put in before, between and behind the records; two that touch are one entry
pub put_in : (output (0xFF ∷ reading ++ (7 ∷ 8 ∷ writing) ++ (9 ∷ [])) ≡ reading ++ writing)
    × (logged (0xFF ∷ reading ++ (7 ∷ 8 ∷ writing) ++ (9 ∷ [])) ≡ 0 ∷ 1 ∷ 7 ∷ 2 ∷ 19 ∷ 1 ∷ [])
unfolding all
put_in = (refl, refl)

-- a write that lost its last byte takes the next record's first for it, and passes: what is left of the read is skipped
pub taken_out : (output (0x57 ∷ 0x52 ∷ 0 ∷ 0 ∷ 0x0C ∷ 0x20 ∷ 1 ∷ 0 ∷ 0 ∷ reading)
    ≡ 0x57 ∷ 0x52 ∷ 0 ∷ 0 ∷ 0x0C ∷ 0x20 ∷ 1 ∷ 0 ∷ 0 ∷ 0x52 ∷ [])
    × (logged (0x57 ∷ 0x52 ∷ 0 ∷ 0 ∷ 0x0C ∷ 0x20 ∷ 1 ∷ 0 ∷ 0 ∷ reading) ≡ 10 ∷ 5 ∷ [])
unfolding all
taken_out = (refl, refl)

-- a mark inside a bad record's value: the write's address is odd, and a read stands in its value
pub mark-inside : (output (0x57 ∷ 0x52 ∷ 0 ∷ 0 ∷ 1 ∷ 0 ∷ reading) ≡ reading)
    × (logged (0x57 ∷ 0x52 ∷ 0 ∷ 0 ∷ 1 ∷ 0 ∷ reading) ≡ 0 ∷ 6 ∷ [])
unfolding all
mark-inside = (refl, refl)

-- a spare byte that is not 0
pub spare : (output (0x52 ∷ 0x44 ∷ 0 ∷ 1 ∷ 0x00 ∷ 0x20 ∷ []) ≡ []) × (logged (0x52 ∷ 0x44 ∷ 0 ∷ 1 ∷ 0x00 ∷ 0x20 ∷ []) ≡ 0 ∷ 6 ∷ [])
unfolding all
spare = (refl, refl)

-- room for one byte too few, then for no entry; and room beyond output and log is unchanged
pub refusals : (salvaged (9 ∷ reading) (replicate 6 0xEE) [] ≡ record { answer = refused 26 7; room = replicate 6 0xEE; log = [] })
    × (salvaged (9 ∷ reading) (replicate 7 0xEE) (0xEE ∷ [])
    ≡ record { answer = refused 27 1; room = replicate 7 0xEE; log = 0xEE ∷ [] })
unfolding all
refusals = (refl, refl)

pub room-beyond : salvaged (9 ∷ reading) (replicate 8 0xEE) (replicate 3 0xEE)
    ≡ record { answer = accepted (6 ∷ 1 ∷ []); room = reading ++ (0xEE ∷ 0xEE ∷ []); log = 0 ∷ 1 ∷ 0xEE ∷ [] }
unfolding all
room-beyond = refl
