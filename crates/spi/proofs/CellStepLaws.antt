-- The cells of a burst are its steps.
use Prim.Native.Nat.{ℕ, zero, suc, ◌+◌, ◌≤◌}
use mathlib.Core.Path.{◌≡◌, refl, ap, ◌∙◌}
use mathlib.Core.Logic.{inr}
use mathlib.Core.List.{List, [], ◌∷◌}
use mathlib.Core.Bool.{false}
use native.Mathlib.Omega.{arith}
use native.Mathlib.Nat.{zero-add}
use lib.ListN.{length, take, drop, get_or}
use lib.Seq.{sets, take_at, drop_at}
use Rattle.lbp16.specs.Space.{registers, row, area_row, store_bytes}
use Rattle.packet.specs.Bytes.{number, bytes_of}
use Rattle.packet.specs.Step.{Kind, read, write, is_info, row_by, at, carried, answered, source, stored, after, seen}
use Rattle.packet.specs.Step.{store_after, values_read}
use Rattle.packet.specs.Rules.{any_step, past_end}
use Rattle.packet.specs.Command.{payload, elements}
use Rattle.packet.proofs.StepLaws.{row_plain}
use Rattle.packet.proofs.ByteLaws.{length-bytes}
use Rattle.packet.proofs.StoreLaws.{get_d_sets}
use Rattle.card.specs.Inside.{Within}
use Rattle.card.specs.Cells.{cells, filled}
use Rattle.card.proofs.ElementLaws.{length_part}
use Rattle.card.proofs.StepBlockLaws.{within-bytes}
use Rattle.spi.specs.Spi.{bytes_of_words, words_of_bytes}

-- n cells from address a on, d apart, end within space 0
abbrev pub Cells : ℕ → ℕ → ℕ → Type 0
Cells n a d = Within n a d 4 65536

-- Steps that are not past the end,
pub steps-within : (k : Kind) (n a d : ℕ) (bs : List ℕ) → is_info k ≡ false
    → any_step past_end (elements k registers n a d bs) ≡ false → Cells n a d
unfolding row
steps-within k n a d bs p e =
    let r = row_plain k registers p in
    rw (r, zero-add) at (within-bytes k registers n a d 65536 bs e (rw r (omega arith)))

-- and the first of them, end within it,
pub cells-fewer : (n m a d : ℕ) → n ≤ m → Cells m a d → Cells n a d
cells-fewer zero m a d h w = tt
cells-fewer (suc n) zero a d h w = absurd (omega arith)
cells-fewer (suc n) (suc m) a d h w = (w.0, cells-fewer n m (a + d) d (omega arith) w.1)

-- and so within a store.
pub within-store : (n a d bytes : ℕ) → 65536 ≤ bytes → Cells n a d → Within n a d 4 bytes
within-store zero a d bytes h w = tt
within-store (suc n) a d bytes h w = (let first = w.0 in omega arith, within-store n (a + d) d bytes h w.1)

pub reads-cells : (n a d : ℕ) (bs store : List ℕ) → length store ≡ store_bytes → Cells n a d
    → words_of_bytes n (values_read (elements read registers n a d bs) store) ≡ cells n a d store
unfolding words_of_bytes values_read elements payload seen source after stored at answered row_by is_info area_row row cells
reads-cells zero a d bs store l w = refl
reads-cells (suc n) a d bs store l w =
    let four : length (take 4 (drop a store)) ≡ 4 = length_part 4 store a (omega arith) in
    let rest = values_read (elements read registers n (a + d) d (drop (carried read registers) bs)) store in
    rw (zero-add, take_at (take 4 (drop a store)) rest 4 four, drop_at (take 4 (drop a store)) rest 4 four)
    (ap (λ (t : List ℕ). number (take 4 (drop a store)) ∷ t) (reads-cells n (a + d) d _ store l w.1))

pub writes_fill : (ws : List ℕ) (a d : ℕ) (store : List ℕ)
    → store_after (elements write registers (length ws) a d (bytes_of_words ws)) store ≡ filled ws a d store
unfolding store_after elements payload after stored at carried row_by is_info area_row row bytes_of_words filled
writes_fill [] a d store = refl
writes_fill (w ∷ ws) a d store =
    let four : length (bytes_of 4 w) ≡ 4 = length-bytes 4 w in
    rw (take_at (bytes_of 4 w) (bytes_of_words ws) 4 four, drop_at (bytes_of 4 w) (bytes_of_words ws) 4 four, zero-add)
    (writes_fill ws (a + d) d (sets store a (bytes_of 4 w)))

-- they leave the other spaces as they are
pub filled-outside : (ws : List ℕ) (a d : ℕ) (store : List ℕ) (i : ℕ) → Cells (length ws) a d → 65536 ≤ i
    → get_or (filled ws a d store) i 0 ≡ get_or store i 0
unfolding filled
filled-outside [] a d store i w h = refl
filled-outside (x ∷ ws) a d store i w h =
    filled-outside ws (a + d) d (sets store a (bytes_of 4 x)) i w.1 h
    ∙ get_d_sets store i a (bytes_of 4 x) 0 (inr (rw length-bytes (omega arith)))
