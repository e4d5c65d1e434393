-- A guard's pairs, as the code cuts them off.
use Prim.Native.Nat.{ℕ, zero, suc, ◌+◌, ◌-◌, ◌*◌, ◌/◌, ◌%◌, ◌≤◌, ◌<◌}
use mathlib.Core.Path.{◌≡◌, refl, sym, ap, ◌∙◌}
use mathlib.Core.List.{List, [], ◌∷◌}
use mathlib.Core.Bool.{true, false, ◌||◌, cond}
use native.Mathlib.Omega.{arith}
use lib.Dec.{leb}
use lib.ListN.{length, take, drop, get_or, length-drop}
use lib.Seq.{drop-drop}
use Rattle.std.specs.Simd.{first_chunks}
use Rattle.lbp16.specs.Answer.{Answer}
use Rattle.packet.proofs.SliceLaws.{tail-whole}
use Rattle.interlock.specs.Guard.{shares, faulty, most_ranges, sound_from, touches}
use Rattle.interlock.proofs.RangeLaws.{touches-end, touches-here, touches-past}

pair-of : (k : ℕ) (xs : List ℕ) (i : ℕ) (z : List ℕ) → i < k → get_or (first_chunks 2 k xs) i z ≡ take 2 (drop (2 * i) xs)
pair-of zero xs i z h = absurd (omega arith)
pair-of (suc k) xs zero z h = refl
pair-of (suc k) xs (suc i) z h =
    let e : 2 + 2 * i ≡ 2 * suc i = omega arith in
    pair-of k (drop 2 xs) i z (omega arith) ∙ ap (take 2) (drop-drop (2 * i) 2 xs) ∙ ap (λ n. take 2 (drop n xs)) e

fronts : (l : List ℕ) → 2 ≤ length l → (get_or (take 2 l) 0 0 ≡ get_or l 0 0) × (get_or (take 2 l) 1 0 ≡ get_or l 1 0)
fronts [] h = absurd (omega arith)
fronts (a ∷ []) h = absurd (omega arith)
fronts (a ∷ b ∷ l) h = (refl, refl)

-- one pair of a guard, and its end
sound-turn : (index : ℕ) (guard : List ℕ) → 2 ≤ length guard
    → sound_from index guard
    ≡ cond (leb most_ranges index || faulty (get_or guard 0 0) (get_or guard 1 0)) (Answer.refused 70 index)
    (sound_from (index + 1) (drop 2 guard))
unfolding sound_from
sound-turn index [] l = absurd (omega arith)
sound-turn index (first ∷ []) l = absurd (omega arith)
sound-turn index (first ∷ bytes ∷ rest) l = refl

sound-none : (index : ℕ) (guard : List ℕ) → length guard ≡ 0 → Answer.accepted (index ∷ []) ≡ sound_from index guard
unfolding sound_from
sound-none index [] l = refl
sound-none index (first ∷ rest) l = absurd (omega arith)

sound-half : (index : ℕ) (guard : List ℕ) → length guard ≡ 1 → Answer.refused 70 index ≡ sound_from index guard
unfolding sound_from
sound-half index [] l = absurd (omega arith)
sound-half index (first ∷ []) l = refl
sound-half index (first ∷ bytes ∷ rest) l = absurd (omega arith)

-- The code stands before pair i.
module _ (guard : List ℕ) (pairs : List (List ℕ)) (e : pairs ≡ first_chunks 2 (length guard / 2) guard) (n : length pairs ≡ length guard / 2)
    (i : ℕ) where
  abbrev here : List ℕ
  here = drop (2 * i) guard

  module _ (h : i < length pairs) (z : List ℕ) where
    two : 2 ≤ length here
    two = rw length-drop (omega arith)

    pub first_is : get_or (get_or pairs i z) 0 0 ≡ get_or here 0 0
    first_is = rw (e, pair-of (length guard / 2) guard i z (omega arith)) (fronts here two).0

    pub second_is : get_or (get_or pairs i z) 1 0 ≡ get_or here 1 0
    second_is = rw (e, pair-of (length guard / 2) guard i z (omega arith)) (fronts here two).1

    pub behind_is : take (length here - 2) (drop 2 here) ≡ drop (2 * (i + 1)) guard
    behind_is =
        let s : 2 * i + 2 ≡ 2 * (i + 1) = omega arith in
        tail-whole 2 here ∙ drop-drop 2 (2 * i) guard ∙ ap (λ n. drop n guard) s

    pub pair-fault : (leb most_ranges i || faulty (get_or (get_or pairs i z) 0 0) (get_or (get_or pairs i z) 1 0)) ≡ true
        → Answer.refused 70 i ≡ sound_from i here
    pair-fault t = let q = rw (first_is, second_is) at t in sym (sound-turn i here two ∙ rw q refl)

    pub pair-fine : (leb most_ranges i || faulty (get_or (get_or pairs i z) 0 0) (get_or (get_or pairs i z) 1 0)) ≡ false
        → sound_from i here ≡ sound_from (i + 1) (drop (2 * (i + 1)) guard)
    pair-fine t =
        let q = rw (first_is, second_is) at t in
        let s : 2 * i + 2 ≡ 2 * (i + 1) = omega arith in
        sound-turn i here two ∙ rw q (ap (sound_from (i + 1)) (drop-drop 2 (2 * i) guard ∙ ap (λ n. drop n guard) s))

    module _ (place width : ℕ) where
      pub pair-touches : shares (get_or (get_or pairs i z) 0 0) (get_or (get_or pairs i z) 1 0) place width ≡ true
          → true ≡ touches here place width
      pair-touches t = let w = two in touches-here here place width (omega arith) (rw (first_is, second_is) at t)

      pub pair-passed : shares (get_or (get_or pairs i z) 0 0) (get_or (get_or pairs i z) 1 0) place width ≡ false
          → touches here place width ≡ touches (drop (2 * (i + 1)) guard) place width
      pair-passed t =
          let w = two in
          touches-past here place width (omega arith) (rw (first_is, second_is) at t) ∙ ap (λ l. touches l place width) behind_is

  pub pairs-end : length pairs ≤ i → (place width : ℕ) → false ≡ touches here place width
  pairs-end h place width = touches-end here place width (rw length-drop (omega arith))

  module _ (end : length pairs ≡ i) where
    pub all-fine : length guard % 2 ≡ 0 → Answer.accepted (length pairs ∷ []) ≡ sound_from i here
    all-fine h = rw end (sound-none i here (rw length-drop (omega arith)))

    pub half-fault : (length guard % 2 ≡ 0 → ⊥) → Answer.refused 70 (length pairs) ≡ sound_from i here
    half-fault h = rw end (sound-half i here (rw length-drop (omega arith)))
