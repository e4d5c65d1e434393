-- A guard: ranges of the store that no packet and no burst may write. It is a list of numbers, two for each range: its first byte and
-- its number of bytes.
use Rattle.std.specs.Prelude.{ℕ, ◌+◌, ◌≡◌, List, [], ◌∷◌, Bool, true, false, not, ◌||◌, ◌&&◌, cond, eqb, ltb, leb}
use Rattle.lbp16.specs.Answer.{Answer}
use Rattle.lbp16.specs.Space.{row, store_bytes}
use Rattle.packet.specs.Step.{Step, is_write, at}
use Rattle.packet.specs.Rules.{any_step}
use Rattle.card.specs.Run.{unlock_cell, count_cell}

-- the most ranges that a guard may have
abbrev pub most_ranges : ℕ
most_ranges = 64

-- whether a range has one of the `width` bytes from `place` on; a range of no bytes has none
unfoldable pub shares : ℕ → ℕ → ℕ → ℕ → Bool
shares first bytes place width = not (eqb bytes 0) && (ltb first (place + width) && ltb place (first + bytes))

-- a range that ends past the store, or has a byte of one of the two cells that the card itself changes
unfoldable pub faulty : ℕ → ℕ → Bool
faulty first bytes =
    ltb store_bytes (first + bytes) || shares first bytes unlock_cell 2 || shares first bytes count_cell 2

-- The number of pairs, or 70 with the index of the earliest pair at fault: a half pair at the end, every pair from the 65th on, and
-- every range that is faulty.
unfoldable pub sound_from : ℕ → List ℕ → Answer
sound_from index [] = Answer.accepted (index ∷ [])
sound_from index (first ∷ []) = Answer.refused 70 index
sound_from index (first ∷ bytes ∷ rest) =
    cond (leb most_ranges index || faulty first bytes) (Answer.refused 70 index) (sound_from (index + 1) rest)

unfoldable pub soundness : List ℕ → Answer
soundness guard = sound_from 0 guard

-- whether some range has one of the `width` bytes from `place` on
unfoldable pub touches : List ℕ → ℕ → ℕ → Bool
touches [] place width = false
touches (first ∷ []) place width = false
touches (first ∷ bytes ∷ rest) place width = shares first bytes place width || touches rest place width

-- a protected byte of the store
abbrev pub IsProtected : List ℕ → ℕ → Type 0
IsProtected guard i = touches guard i 1 ≡ true

-- A step that writes a protected byte, be it the value that stands there; and whether some step of a list does.
unfoldable pub writes_protected : List ℕ → Step → Bool
writes_protected guard s = is_write s.kind && touches guard (at s) (row s.space).element

unfoldable pub protected : List ℕ → List Step → Bool
protected guard steps = any_step (writes_protected guard) steps
