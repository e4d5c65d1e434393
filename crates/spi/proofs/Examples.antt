-- Half a burst, computed: document 02's rule at its edges.
use Prim.Native.Nat.{ℕ}
use mathlib.Core.Path.{◌≡◌, refl}
use mathlib.Core.List.{List, [], ◌∷◌}
use lib.ListN.{length, take, drop, replicate}
use Rattle.lbp16.specs.Answer.{Answer}
use Rattle.lbp16.specs.Space
use Rattle.packet.specs.Bytes
use Rattle.packet.specs.Step
use Rattle.packet.specs.Rules
use Rattle.packet.specs.Command
use Rattle.spi.specs.Spi
use Rattle.spi.specs.Spi.{Burst, run_burst}

-- a burst on a store of zeros, with room full of ones
pub sent : List ℕ → Burst
unfolding Space.row Space.area_row Bytes.number Bytes.bytes_of Step.is_info Step.is_write Step.row_by Step.at Step.carried
    Step.answered Step.stored Step.source Step.after Step.seen Step.store_after Step.values_read Rules.first
    Rules.misaligned Rules.past_end Rules.any_step Command.payload Command.elements Spi.header_of Spi.other_command
    Spi.first_word Spi.bytes_of_words Spi.words_of_bytes Spi.burst_kind Spi.burst_steps Spi.burst_refusals Spi.burst_words
    Spi.burst_outcome Spi.run_burst
sent words = run_burst words (replicate 65728 0) (replicate (length words) 1)

-- a word missing on a read
pub one_missing : ((sent (0x1000A830 ∷ 7 ∷ 7 ∷ [])).answer ≡ Answer.accepted (2 ∷ []))
    × ((sent (0x1000A830 ∷ 7 ∷ 7 ∷ [])).room ≡ 0 ∷ 0 ∷ 0 ∷ [])
unfolding sent
one_missing = (refl, refl)

-- one of three words written
pub two_missing : ((sent (0x1000B830 ∷ 0x11223344 ∷ [])).answer ≡ Answer.accepted (1 ∷ []))
    × (take 8 (drop 0x1000 (sent (0x1000B830 ∷ 0x11223344 ∷ [])).store) ≡ 0x44 ∷ 0x33 ∷ 0x22 ∷ 0x11 ∷ 0 ∷ 0 ∷ 0 ∷ 0 ∷ [])
unfolding sent
two_missing = (refl, refl)

pub header_only : ((sent (0x1000A830 ∷ [])).answer ≡ Answer.accepted (0 ∷ [])) × ((sent (0x1000A830 ∷ [])).room ≡ 0 ∷ [])
unfolding sent
header_only = (refl, refl)

pub one-too_many : (sent (0x1000A830 ∷ 7 ∷ 7 ∷ 7 ∷ 7 ∷ [])).answer ≡ Answer.refused 34 0
unfolding sent
one-too_many = refl

-- the last cell's word came, but a cell past the end was promised
pub promised-past_end : (sent (0xFFFCB820 ∷ 7 ∷ [])).answer ≡ Answer.refused 35 0
unfolding sent
promised-past_end = refl
