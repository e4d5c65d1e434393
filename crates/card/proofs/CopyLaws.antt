-- Elements that stand one behind the other are a block, and those that stand still are one element.
use Prim.Native.Nat.{ℕ, zero, suc, ◌+◌, ◌-◌, ◌*◌, ◌/◌, ◌%◌, ◌≤◌}
use mathlib.Core.Path.{◌≡◌, refl, sym, ap, ◌∙◌}
use mathlib.Core.List.{List, [], ◌∷◌, ◌++◌}
use mathlib.Core.Bool.{Bool, true, false, cond, ◌&&◌}
use lib.Dec.{eqb}
use borrow.Author.Tests.{eqb-true}
use Rattle.lbp16.proofs.BoolLaws.{and_true}
use native.Mathlib.Omega.{arith}
use native.Mathlib.Numerals.{sub-one}
use native.Mathlib.Nat.{add-zero, add_comm, suc-mul, zero-mul}
use lib.ListN.{length, take, drop, length-drop}
use lib.Seq.{sets, drop-drop, length-take-le, take-add, take_at, sets-eq, length-sets}
use Rattle.packet.proofs.StoreLaws.{sets_twice}
use Rattle.lbp16.proofs.ListLaws.{sets_append}
use Rattle.card.specs.Inside.{IsWidth, Within, moved}

pub width_le : (w : ℕ) → IsWidth w → w ≤ 4
width_le w e = rw e (go (eqb w 4))
  where
    go : (b : Bool) → cond b 4 2 ≤ 4
    go true = omega arith
    go false = omega arith

-- where the last of the elements stands
pub last_within : (n i d w bytes : ℕ) → Within (suc n) i d w bytes → i + n * d + w ≤ bytes
last_within zero i d w bytes h = let q = h.0 in let z = zero-mul d in omega arith
last_within (suc n) i d w bytes h = let q = last_within n (i + d) d w bytes h.1 in let e = suc-mul n d in omega arith

-- a part, and the one behind it, copied are one part
pub copied_on : (m k : ℕ) (src : List ℕ) (i : ℕ) (dst : List ℕ) (j : ℕ) → i + m ≤ length src
    → sets (sets dst j (take m (drop i src))) (j + m) (take k (drop (i + m) src)) ≡ sets dst j (take (m + k) (drop i src))
copied_on m k src i dst j h =
    let l : length (take m (drop i src)) ≡ m = length-take-le m (drop i src) (rw length-drop (omega arith)) in
    let whole : take m (drop i src) ++ take k (drop (i + m) src) ≡ take (m + k) (drop i src) = rw (take-add, drop-drop) refl in
    (rw l at (sets_append dst j (take m (drop i src)) (take k (drop (i + m) src)))) ∙ ap (sets dst j) whole

-- elements that stand one behind the other on both sides
pub moved-block : (n w : ℕ) (src : List ℕ) (i : ℕ) (dst : List ℕ) (j : ℕ) → i + n * w ≤ length src
    → moved n w src i w dst j w ≡ sets dst j (take (n * w) (drop i src))
unfolding moved
moved-block zero w src i dst j h = rw zero-mul refl
moved-block (suc n) w src i dst j h =
    let e : suc n * w ≡ w + n * w = suc-mul n w ∙ add_comm (n * w) w in
    moved-block n w src (i + w) (sets dst j (take w (drop i src))) (j + w) (omega arith)
    ∙ copied_on w (n * w) src i dst j (omega arith)
    ∙ ap (λ (k : ℕ). sets dst j (take k (drop i src))) (sym e)

-- such elements stand within bytes that have room for them
pub within_block : (n i w bytes : ℕ) → i + n * w ≤ bytes → Within n i w w bytes
within_block zero i w bytes h = tt
within_block (suc n) i w bytes h = let e = suc-mul n w in (omega arith, within_block n (i + w) w bytes (omega arith))

-- A block of elements as words of 4 bytes: two elements of 2 bytes are a word.
module _ (n : ℕ) (src : List ℕ) (i : ℕ) (dst : List ℕ) (j : ℕ) (inside : i + n * 2 ≤ length src) where
  pub pairs-even : (n % 2 ≡ 1 → ⊥) → moved (n / 2) 4 src i 4 dst j 4 ≡ sets dst j (take (n * 2) (drop i src))
  pairs-even h =
      let e : n / 2 * 4 ≡ n * 2 = let z : n % 2 ≡ 0 = even (n % 2) h (omega arith) in omega arith in
      moved-block (n / 2) 4 src i dst j (omega arith) ∙ ap (λ (k : ℕ). sets dst j (take k (drop i src))) e
    where
      even : (r : ℕ) → (r ≡ 1 → ⊥) → r ≤ 1 → r ≡ 0
      even zero h l = refl
      even (suc r) h l = absurd (h (omega arith))

  pub pairs-odd : n % 2 ≡ 1 → sets (moved (n / 2) 4 src i 4 dst j 4) (j + (n - 1) * 2) (take 2 (drop (i + (n - 1) * 2) src))
      ≡ sets dst j (take (n * 2) (drop i src))
  pairs-odd h =
      let e : (n - 1) * 2 ≡ n / 2 * 4 = omega arith in
      let f : n / 2 * 4 + 2 ≡ n * 2 = omega arith in
      rw (e, moved-block (n / 2) 4 src i dst j (omega arith), ← f) (copied_on (n / 2 * 4) 2 src i dst j (omega arith))

-- of elements that go to one place the last stays there
pub moved-still : (n w : ℕ) (src : List ℕ) (i d : ℕ) (dst : List ℕ) (j : ℕ) → Within (suc n) i d w (length src)
    → moved (suc n) w src i d dst j 0 ≡ sets dst j (take w (drop (i + n * d) src))
unfolding moved
moved-still zero w src i d dst j h = rw (zero-mul, add-zero) refl
moved-still (suc n) w src i d dst j h =
    let e : i + d + n * d ≡ i + suc n * d = let q = suc-mul n d in omega arith in
    let l = last_within n (i + d) d w (length src) h.1 in
    let one : length (take w (drop i src)) ≡ w = length-take-le w (drop i src) (rw length-drop (let q = h.0 in omega arith)) in
    let two : length (take w (drop (i + d + n * d) src)) ≡ w = length-take-le w (drop (i + d + n * d) src) (rw length-drop (omega arith)) in
    (rw add-zero (moved-still n w src (i + d) d (sets dst j (take w (drop i src))) j h.1))
    ∙ sets_twice dst j (take w (drop i src)) (take w (drop (i + d + n * d) src)) (one ∙ sym two)
    ∙ ap (λ k. sets dst j (take w (drop k src))) e

-- an element that stands still may be moved from a copy of it
pub moved_copy : (n w : ℕ) (src one : List ℕ) (i k : ℕ) (dst : List ℕ) (j d : ℕ)
    → take w (drop i src) ≡ take w (drop k one) → moved n w one k 0 dst j d ≡ moved n w src i 0 dst j d
unfolding moved
moved_copy zero w src one i k dst j d e = refl
moved_copy (suc n) w src one i k dst j d e =
    rw (add-zero i, add-zero k, e) (moved_copy n w src one i k (sets dst j (take w (drop k one))) (j + d) d e)

pub within-still : (n i w bytes : ℕ) → i + w ≤ bytes → Within n i 0 w bytes
within-still zero i w bytes h = tt
within-still (suc n) i w bytes h = (h, rw add-zero (within-still n i w bytes h))

-- the copy that one element is moved from
module _ (src : List ℕ) (i w : ℕ) (near : w ≤ 4) (h : i + w ≤ length src) (one : List ℕ)
    (e : one ≡ sets (0 ∷ 0 ∷ 0 ∷ 0 ∷ []) 0 (take w (drop i src))) where
  pub one-within : (n : ℕ) → Within n 0 0 w (length one)
  one-within n = within-still n 0 _ _ (rw (e, length-sets) (omega arith))

  pub one_same : take w (drop i src) ≡ take w (drop 0 one)
  one_same =
      let v = take w (drop i src) in
      let l : length v ≡ w = length-take-le _ (drop i src) (rw length-drop (omega arith)) in
      let q = sets-eq v (0 ∷ 0 ∷ 0 ∷ 0 ∷ []) 0 (rw l (omega arith)) in
      sym (rw (e, q) (take_at v _ _ l))

-- Some elements, from src to dst: where they stand, and what moving them comes to.
module _ (n w : ℕ) (src : List ℕ) (i d : ℕ) (dst : List ℕ) (j e : ℕ) (some : n ≡ 0 → ⊥)
    (inside : Within n i d w (length src)) (room : Within n j e w (length dst)) where
  first : (m k f bytes : ℕ) → (m ≡ 0 → ⊥) → Within m k f w bytes → k + w ≤ bytes
  first zero k f bytes s h = absurd (s refl)
  first (suc m) k f bytes s h = h.0

  pub from-within : i + w ≤ length src
  from-within = first n i d (length src) some inside

  pub to-within : j + w ≤ length dst
  to-within = first n j e (length dst) some room

  pub last-is : (i + (n - 1) * d + w ≤ length src)
      × (e ≡ 0 → sets dst j (take w (drop (i + (n - 1) * d) src)) ≡ moved n w src i d dst j e)
  last-is = go n some inside
    where
      go : (m : ℕ) → (m ≡ 0 → ⊥) → Within m i d w (length src) → (i + (m - 1) * d + w ≤ length src)
          × (e ≡ 0 → sets dst j (take w (drop (i + (m - 1) * d) src)) ≡ moved m w src i d dst j e)
      go zero s h = absurd (s refl)
      go (suc m) s h = rw sub-one (last_within m i d w (length src) h, λ z. rw z (sym (moved-still m w src i d dst j h)))

  pub filled_is : d ≡ 0 → moved n w src i 0 dst j e ≡ moved n w src i d dst j e
  filled_is z = rw z refl

  block : (m k bytes : ℕ) → (m ≡ 0 → ⊥) → Within m k w w bytes → k + m * w ≤ bytes
  block zero k bytes s h = absurd (s refl)
  block (suc m) k bytes s h = let q = last_within m k w w bytes h in let f = suc-mul m w in omega arith

  -- one behind the other on both sides
  pub block-is : (eqb d w && eqb e w) ≡ true → (i + n * w ≤ length src) × (j + n * w ≤ length dst)
      × (sets dst j (take (n * w) (drop i src)) ≡ moved n w src i d dst j e)
  block-is t =
      let both = and_true (eqb d w) (eqb e w) t in
      let d-is : d ≡ w = eqb-true d w both.0 in
      let e-is : e ≡ w = eqb-true e w both.1 in
      let l = block n i (length src) some (rw d-is at inside) in
      (l, block n j (length dst) some (rw e-is at room), rw (d-is, e-is) (sym (moved-block n w src i dst j l)))

-- no elements
pub moved_none : (n w : ℕ) (src : List ℕ) (i d : ℕ) (dst : List ℕ) (j e : ℕ) → n ≡ 0 → dst ≡ moved n w src i d dst j e
unfolding moved
moved_none zero w src i d dst j e z = refl
moved_none (suc n) w src i d dst j e z = absurd (omega arith)

-- one element
pub within-one : (n i d w bytes : ℕ) → n ≡ 1 → Within n i d w bytes → i + w ≤ bytes
within-one zero i d w bytes e h = absurd (omega arith)
within-one (suc n) i d w bytes e h = h.0

pub moved-one : (n w : ℕ) (src : List ℕ) (i d : ℕ) (dst : List ℕ) (j e : ℕ) → n ≡ 1
    → sets dst j (take w (drop i src)) ≡ moved n w src i d dst j e
unfolding moved
moved-one n w src i d dst j e z = rw z refl
