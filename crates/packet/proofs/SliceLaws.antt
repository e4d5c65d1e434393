-- A part of a slice: one that starts at an offset, and what a write to a part leaves.
use Prim.Native.Nat.{ℕ, min, ◌+◌, ◌≤◌, ◌-◌}
use mathlib.Core.Path.{◌≡◌, refl, sym, ◌∙◌}
use mathlib.Core.List.{List}
use native.Mathlib.Decide.{dec_le}
use native.Mathlib.Nat.{le_refl}
use native.Mathlib.Omega.{arith}
use lib.ListN.{length, take, drop, length-drop, drop_of_length-le}
use lib.Seq.{take_all, sets, sets-eq}
use borrow.Rule.Slice.PartMut.{put_mid}
use Rattle.std.proofs.lemmas.Slice.{put_mid-paste}

pub tail-whole : {A : Type 0} (n : ℕ) (l : List A) → take (length l - n) (drop n l) ≡ drop n l
tail-whole n l = take_all (length l - n) (drop n l) (rw length-drop (le_refl _))

-- the same from an offset that is no further than the end
pub rest-within : {A : Type 0} (l : List A) (i r : ℕ) → r ≡ min i (length l) → take (length l - r) (drop r l) ≡ drop i l
rest-within l i r e = tail-whole r l ∙ go (dec_le i (length l))
  where
    go : Dec (i ≤ length l) → drop r l ≡ drop i l
    go (yes h) = let q : r ≡ i = omega arith in rw q refl
    go (no h) = drop_of_length-le l {i = r} (omega arith) ∙ sym (drop_of_length-le l {i = i} (omega arith))

-- a part of a slice written at once
pub part_put : (l : List ℕ) (at n : ℕ) {ys vs : List ℕ} → ys ≡ vs → n ≡ length vs → at + n ≤ length l → put_mid at n l ys ≡ sets l at vs
part_put l at n {ys} {vs} e k h =
    put_mid-paste at n l ys vs n e refl k ∙ rw (take_all n vs (omega arith), k) (sym (sets-eq vs l at (omega arith)))
