-- Laws of stores into a list, and of parts of it.
use Prim.Native.Nat.{ℕ, suc, ◌+◌, ◌≤◌}
use mathlib.Core.Path.{◌≡◌, refl, ◌∙◌}
use mathlib.Core.List.{List, [], ◌∷◌, ◌++◌, append_assoc, append-nil}
use native.Mathlib.Omega.{arith}
use native.Mathlib.Nat.{add-zero}
use lib.ListN.{length, take, drop, set, length-drop, drop_of_length-le}
use lib.Seq.{sets, sets-eq, take_at, drop_at, take-append-le, drop-append-le, length-take-le}

module _ {A : Type 0} where
  -- a list of no elements
  pub none_left : (l : List A) → length l ≡ 0 → l ≡ []
  none_left [] h = refl
  none_left (a ∷ l) h = absurd (omega arith)

  -- stores one behind the other are one store
  pub sets_append : (l : List A) (i : ℕ) (vs ws : List A) → sets (sets l i vs) (i + length vs) ws ≡ sets l i (vs ++ ws)
  sets_append l i [] ws = rw add-zero refl
  sets_append l i (v ∷ vs) ws =
      let e : i + suc (length vs) ≡ suc i + length vs = omega arith in
      rw e (sets_append (set l i v) (suc i) vs ws)

  -- stores to every place of a list leave the values stored
  pub stored-whole : (vs l : List A) → length l ≡ length vs → sets l 0 vs ≡ vs
  stored-whole vs l h =
      let fits : 0 + length vs ≤ length l = omega arith in
      let past : drop (0 + length vs) l ≡ [] = drop_of_length-le l {i = 0 + length vs} (omega arith) in
      sets-eq vs l 0 fits ∙ (rw past (append-nil vs))

  -- what stands in a range that was written
  pub slice_of_sets : (l : List A) (i : ℕ) (ws : List A) → i + length ws ≤ length l → take (length ws) (drop i (sets l i ws)) ≡ ws
  slice_of_sets l i ws h =
      rw (sets-eq ws l i h, append_assoc, drop_at (take i l) _ i (length-take-le i l (omega arith)), take_at ws _ _ refl) refl

  -- n places from i on that stand in a list's first part
  pub slice_front : (n i : ℕ) (l more : List A) → i + n ≤ length l → take n (drop i (l ++ more)) ≡ take n (drop i l)
  slice_front n i l more h =
      let e : i ≤ length l = omega arith in
      rw (drop-append-le i l more e) (take-append-le n (drop i l) more (rw length-drop (omega arith)))
