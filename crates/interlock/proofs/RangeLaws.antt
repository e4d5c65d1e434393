-- Ranges of a guard: when one has a byte of some others, and what a sound guard leaves out.
use Prim.Native.Nat.{ℕ, suc, ◌+◌, ◌-◌, ◌≤◌, ◌<◌}
use mathlib.Core.Path.{◌≡◌, refl, sym, ◌∙◌}
use mathlib.Core.Logic.{◌⊎◌, inl, inr, ⊎_elim}
use mathlib.Core.List.{List, [], ◌∷◌}
use mathlib.Core.Bool.{Bool, true, false, not, ◌||◌, ◌&&◌, cond}
use native.Mathlib.Omega.{arith}
use native.Mathlib.Decide.{dec_le}
use lib.Dec.{eqb, ltb, leb}
use lib.ListN.{length, take, drop, get_or}
use borrow.Author.Tests.{ltb-true, ltb-false, lt-ltb, le-ltb, eqb-false, ne_eqb, not-true}
use Rattle.lbp16.specs.Answer.{Answer}
use Rattle.lbp16.specs.Space.{store_bytes}
use Rattle.lbp16.proofs.BoolLaws.{or_false, and_true}
use Rattle.card.specs.Run.{unlock_cell, count_cell}
use Rattle.packet.proofs.SliceLaws.{tail-whole}
use Rattle.cue.specs.Demand3.{Off}
use Rattle.interlock.specs.Guard.{shares, faulty, most_ranges, sound_from, soundness, touches, IsProtected}

-- two tests that hold together are the same
pub same_test : (a b : Bool) → (a ≡ true → b ≡ true) → (b ≡ true → a ≡ true) → a ≡ b
same_test true b f g = sym (f refl)
same_test false true f g = g refl
same_test false false f g = refl

pub or_left : (a b : Bool) → a ≡ true → (a || b) ≡ true
or_left a b e = rw e refl

pub or_right : (a b : Bool) → b ≡ true → (a || b) ≡ true
or_right true b e = refl
or_right false b e = e

pub or_true : (a b : Bool) → (a || b) ≡ true → (a ≡ true) ⊎ (b ≡ true)
or_true true b e = inl refl
or_true false b e = inr e

-- A range that has one of the `width` bytes from `place` on.
pub record Sharing (first bytes place width : ℕ) : Type 0 where
  pub some : 1 ≤ bytes
  pub low : first < place + width
  pub high : place < first + bytes

module _ (first bytes place width : ℕ) where
  pub is-sharing : shares first bytes place width ≡ true → Sharing first bytes place width
  unfolding shares
  is-sharing e =
      let (some, both) = and_true (not (eqb bytes 0)) _ e in
      let (low, high) = and_true (ltb first (place + width)) _ both in
      let n = eqb-false bytes 0 (not-true _ some) in
      record { some = omega arith; low = ltb-true _ _ low; high = ltb-true _ _ high }

  pub sharing : Sharing first bytes place width → shares first bytes place width ≡ true
  unfolding shares
  sharing s =
      let some = s.some in
      rw (ne_eqb bytes 0 (λ z. omega arith), lt-ltb _ _ s.low, lt-ltb _ _ s.high) refl

-- a range that begins behind the bytes, and one that ends before them
pub none-behind : (first bytes place width : ℕ) → place + width ≤ first → false ≡ shares first bytes place width
unfolding shares
none-behind first bytes place width h = rw (le-ltb _ _ h) (go (not (eqb bytes 0)))
  where
    go : (b : Bool) → false ≡ (b && false)
    go true = refl
    go false = refl

none_before : (first bytes place width : ℕ) → first + bytes ≤ place → shares first bytes place width ≡ false
unfolding shares
none_before first bytes place width h = rw (le-ltb _ _ h) (go (not (eqb bytes 0)) (ltb first (place + width)))
  where
    go : (b t : Bool) → (b && (t && false)) ≡ false
    go true true = refl
    go true false = refl
    go false t = refl

-- as the code tests the rest
pub one-here : (first bytes place width : ℕ) → first < place + width
    → (not (eqb bytes 0) && ltb place (first + bytes)) ≡ shares first bytes place width
unfolding shares
one-here first bytes place width h = rw (lt-ltb _ _ h) refl

pub low-fine : (first bytes : ℕ) → first + bytes ≤ count_cell → false ≡ faulty first bytes
unfolding faulty
low-fine first bytes h =
    rw (
      le-ltb store_bytes (first + bytes) (omega arith),
      none_before first bytes unlock_cell 2 (omega arith),
      none_before first bytes count_cell 2 h,
    )
    refl

-- bytes in two parts
shares_parts : (first bytes place w v : ℕ)
    → shares first bytes place (w + v) ≡ (shares first bytes place w || shares first bytes (place + w) v)
shares_parts first bytes place w v = same_test _ _ (λ e. to (is-sharing _ _ _ _ e)) (λ e. from (or_true (shares first bytes place w) _ e))
  where
    to : Sharing first bytes place (w + v) → (shares first bytes place w || shares first bytes (place + w) v) ≡ true
    to s = go (dec_le (suc first) (place + w))
      where
        go : Dec (suc first ≤ place + w) → (shares first bytes place w || shares first bytes (place + w) v) ≡ true
        go (yes l) =
            let here = sharing first bytes place w (record { some = s.some; low = omega arith; high = s.high }) in
            or_left (shares first bytes place w) (shares first bytes (place + w) v) here
        go (no g) =
            let some = s.some in
            let low = s.low in
            let there = sharing first bytes (place + w) v (record { some = some; low = omega arith; high = omega arith }) in
            or_right (shares first bytes place w) (shares first bytes (place + w) v) there

    from : (shares first bytes place w ≡ true) ⊎ (shares first bytes (place + w) v ≡ true)
        → shares first bytes place (w + v) ≡ true
    from (inl e) =
        let s = is-sharing first bytes place w e in
        let low = s.low in
        sharing first bytes place (w + v) (record { some = s.some; low = omega arith; high = s.high })
    from (inr e) =
        let s = is-sharing first bytes (place + w) v e in
        let low = s.low in
        let high = s.high in
        sharing first bytes place (w + v) (record { some = s.some; low = omega arith; high = omega arith })

-- four tests by turns
turns : (a b c d : Bool) → ((a || b) || (c || d)) ≡ ((a || c) || (b || d))
turns true b c d = refl
turns false true true d = refl
turns false true false d = refl
turns false false true d = refl
turns false false false d = refl

pub touches-parts : (guard : List ℕ) (place w v : ℕ)
    → touches guard place (w + v) ≡ (touches guard place w || touches guard (place + w) v)
unfolding touches
touches-parts [] place w v = refl
touches-parts (first ∷ []) place w v = refl
touches-parts (first ∷ bytes ∷ rest) place w v =
    rw (shares_parts first bytes place w v, touches-parts rest place w v)
    (turns (shares first bytes place w) (shares first bytes (place + w) v) (touches rest place w) (touches rest (place + w) v))

-- A byte of a range is off all bytes of which the range has none.
off-range : (first bytes place width i : ℕ) → shares first bytes place width ≡ false → shares first bytes i 1 ≡ true
    → (i < place) ⊎ (place + width ≤ i)
off-range first bytes place width i none here = go (dec_le place i) (dec_le (place + width) i)
  where
    s : Sharing first bytes i 1
    s = is-sharing _ _ _ _ here

    go : Dec (place ≤ i) → Dec (place + width ≤ i) → (i < place) ⊎ (place + width ≤ i)
    go (no g) d = inl (omega arith)
    go (yes l) (yes m) = inr m
    go (yes l) (no g) =
        let low = s.low in
        let high = s.high in
        let t = sharing first bytes place width (record { some = s.some; low = omega arith; high = omega arith }) in
        let z : ◌≡◌ {A = ℕ} 0 1 = cc in
        absurd (omega arith)

pub off-protected : (guard : List ℕ) (place width i : ℕ) → touches guard place width ≡ false → IsProtected guard i
    → (i < place) ⊎ (place + width ≤ i)
unfolding touches
off-protected [] place width i none here = let z : ◌≡◌ {A = ℕ} 0 1 = cc in absurd (omega arith)
off-protected (first ∷ []) place width i none here = let z : ◌≡◌ {A = ℕ} 0 1 = cc in absurd (omega arith)
off-protected (first ∷ bytes ∷ rest) place width i none here =
    let (one, others) = or_false (shares first bytes place width) _ none in
    ⊎_elim (off-range first bytes place width i one) (off-protected rest place width i others) (or_true (shares first bytes i 1) _ here)

-- Where the ranges have one of the bytes, it is a protected one.
pub record Touched (guard : List ℕ) (place width : ℕ) : Type 0 where
  pub byte : ℕ
  pub low : place ≤ byte
  pub high : byte < place + width
  pub is-protected : IsProtected guard byte

pub touched_byte : (guard : List ℕ) (place width : ℕ) → 1 ≤ width → touches guard place width ≡ true → Touched guard place width
unfolding touches
touched_byte [] place width w e = let z : ◌≡◌ {A = ℕ} 0 1 = cc in absurd (omega arith)
touched_byte (first ∷ []) place width w e = let z : ◌≡◌ {A = ℕ} 0 1 = cc in absurd (omega arith)
touched_byte (first ∷ bytes ∷ rest) place width w e =
    ⊎_elim (λ s. here (is-sharing first bytes place width s)) (λ t. later (touched_byte rest place width w t))
    (or_true (shares first bytes place width) _ e)
  where
    later : Touched rest place width → Touched (first ∷ bytes ∷ rest) place width
    later t = record { byte = t.byte; low = t.low; high = t.high; is-protected = or_right (shares first bytes t.byte 1) _ t.is-protected }

    here : Sharing first bytes place width → Touched (first ∷ bytes ∷ rest) place width
    here s = go (dec_le first place)
      where
        go : Dec (first ≤ place) → Touched (first ∷ bytes ∷ rest) place width
        go (yes l) =
            let one = sharing first bytes place 1 (record { some = s.some; low = omega arith; high = s.high }) in
            record { byte = place; low = omega arith; high = omega arith; is-protected = or_left _ _ one }
        go (no g) =
            let some = s.some in
            let one = sharing first bytes first 1 (record { some = some; low = omega arith; high = omega arith }) in
            record { byte = first; low = omega arith; high = s.low; is-protected = or_left _ _ one }

-- a range that is not faulty
pub record Fine (first bytes : ℕ) : Type 0 where
  pub end : first + bytes ≤ store_bytes
  pub unlock : shares first bytes unlock_cell 2 ≡ false
  pub count : shares first bytes count_cell 2 ≡ false

fine : (first bytes : ℕ) → faulty first bytes ≡ false → Fine first bytes
unfolding faulty
fine first bytes e =
    let (front, count) = or_false _ _ e in
    let (end, unlock) = or_false (ltb store_bytes (first + bytes)) _ front in
    record { end = ltb-false _ _ end; unlock = unlock; count = count }

-- One pair of a guard that is sound: it is not faulty, and the pairs after it are sound.
pair-sound : (index first bytes : ℕ) (rest values : List ℕ) → sound_from index (first ∷ bytes ∷ rest) ≡ Answer.accepted values
    → Fine first bytes × (sound_from (index + 1) rest ≡ Answer.accepted values)
unfolding sound_from
pair-sound index first bytes rest values e = go (leb most_ranges index) (faulty first bytes) refl e
  where
    go : (t u : Bool) → faulty first bytes ≡ u
        → cond (t || u) (Answer.refused 70 index) (sound_from (index + 1) rest) ≡ Answer.accepted values
        → Fine first bytes × (sound_from (index + 1) rest ≡ Answer.accepted values)
    go true u q e = let z : ◌≡◌ {A = ℕ} 0 1 = cc in absurd (omega arith)
    go false true q e = let z : ◌≡◌ {A = ℕ} 0 1 = cc in absurd (omega arith)
    go false false q e = (fine first bytes q, e)

-- A sound guard protects no byte of a cell that the card itself changes.
cells-off : (index : ℕ) (guard values : List ℕ) → sound_from index guard ≡ Answer.accepted values → (i : ℕ) → IsProtected guard i
    → Off unlock_cell i × Off count_cell i
unfolding touches sound_from
cells-off index [] values e i here = let z : ◌≡◌ {A = ℕ} 0 1 = cc in absurd (omega arith)
cells-off index (first ∷ []) values e i here = let z : ◌≡◌ {A = ℕ} 0 1 = cc in absurd (omega arith)
cells-off index (first ∷ bytes ∷ rest) values e i here =
    let (range, others) = pair-sound index first bytes rest values e in
    ⊎_elim (λ s. (off-range first bytes unlock_cell 2 i range.unlock s, off-range first bytes count_cell 2 i range.count s))
    (cells-off (index + 1) rest values others i)
    (or_true (shares first bytes i 1) _ here)

pub sound-off : (guard values : List ℕ) → soundness guard ≡ Answer.accepted values → (i : ℕ) → IsProtected guard i
    → Off unlock_cell i × Off count_cell i
unfolding soundness
sound-off guard values e = cells-off 0 guard values e

-- nor does it touch the unlock cell
unlock-off : (index : ℕ) (guard values : List ℕ) → sound_from index guard ≡ Answer.accepted values → touches guard unlock_cell 2 ≡ false
unfolding touches sound_from
unlock-off index [] values e = refl
unlock-off index (first ∷ []) values e = let z : ◌≡◌ {A = ℕ} 0 1 = cc in absurd (omega arith)
unlock-off index (first ∷ bytes ∷ rest) values e =
    let pair = pair-sound index first bytes rest values e in
    rw (pair.0.unlock, unlock-off (index + 1) rest values pair.1) refl

pub unlock-free : (guard values : List ℕ) → soundness guard ≡ Answer.accepted values → touches guard unlock_cell 2 ≡ false
unfolding soundness
unlock-free guard values e = unlock-off 0 guard values e

-- The code's loop over the ranges.
pub touches-end : (guard : List ℕ) (place width : ℕ) → length guard ≤ 1 → false ≡ touches guard place width
unfolding touches
touches-end [] place width l = refl
touches-end (first ∷ []) place width l = refl
touches-end (first ∷ bytes ∷ rest) place width l = absurd (omega arith)

touches-turn : (guard : List ℕ) (place width : ℕ) → 1 < length guard
    → touches guard place width
    ≡ (shares (get_or guard 0 0) (get_or guard 1 0) place width || touches (take (length guard - 2) (drop 2 guard)) place width)
unfolding touches
touches-turn [] place width l = absurd (omega arith)
touches-turn (first ∷ []) place width l = absurd (omega arith)
touches-turn (first ∷ bytes ∷ rest) place width l = rw (tail-whole 2 (first ∷ bytes ∷ rest)) refl

module _ (guard : List ℕ) (place width : ℕ) (more : 1 < length guard) where
  pub touches-here : shares (get_or guard 0 0) (get_or guard 1 0) place width ≡ true → true ≡ touches guard place width
  touches-here e = sym (touches-turn guard place width more ∙ or_left _ _ e)

  pub touches-past : shares (get_or guard 0 0) (get_or guard 1 0) place width ≡ false
      → touches guard place width ≡ touches (take (length guard - 2) (drop 2 guard)) place width
  touches-past e = touches-turn guard place width more ∙ rw e refl
