-- Laws of steps on a store, and of ranges of a list that do not overlap.
use Prim.Native.Nat.{ℕ, suc, ◌+◌, ◌-◌, ◌≤◌, ◌<◌}
use mathlib.Core.Path.{◌≡◌, refl, ◌∙◌}
use mathlib.Core.Logic.{◌⊎◌, inl, inr, ◌≢◌}
use mathlib.Core.Bool.{true, false}
use mathlib.Core.List.{List, [], ◌∷◌, ◌++◌, append_assoc}
use native.Mathlib.Omega.{arith}
use lib.Dec.{ltb}
use lib.ListN.{length, take, drop, get_or, set, length-append, length-drop}
use lib.Seq.{sets, length-sets, set-set, set_comm, drop-set-lt, drop-set-add, take-set-le, get_or-set_other}
use lib.Seq.{length-take-le, drop-cons}
use borrow.Author.Tests.{ltb-false}
use Rattle.lbp16.specs.Space.{Space, info_row, area_row, store_bytes}
use Rattle.lbp16.proofs.BoolLaws.{or_false}
use Rattle.lbp16.proofs.SpaceLaws.{row-end}
use Rattle.packet.specs.Step.{Kind, read, write, infoRead, Step, is_info, is_write, row_by, at, source, stored}
use Rattle.packet.specs.Step.{answered, after, seen, store_after, values_read}
use Rattle.packet.specs.Step.{reply_bytes}
use Rattle.packet.specs.Rules.{past_end, any_step}

-- the n places from i on and the m places from j on do not overlap
abbrev pub Apart : ℕ → ℕ → ℕ → ℕ → Type 0
Apart i n j m = (i + n ≤ j) ⊎ (j + m ≤ i)

-- A place off a range differs from the range's first place, and is off the rest.
off-first : (i j m : ℕ) → (i < j) ⊎ (j + suc m ≤ i) → (i ≢ j) × ((i < suc j) ⊎ (suc j + m ≤ i))
off-first i j m (inl h) = (omega arith, inl (omega arith))
off-first i j m (inr h) = (omega arith, inr (omega arith))

module _ {A : Type 0} where
  -- a write to a range leaves the places off it
  pub get_d_sets : (l : List A) (i j : ℕ) (ws : List A) (d : A) → (i < j) ⊎ (j + length ws ≤ i)
      → get_or (sets l j ws) i d ≡ get_or l i d
  get_d_sets l i j [] d h = refl
  get_d_sets l i j (b ∷ ws) d h =
      let o = off-first i j (length ws) h in
      get_d_sets (set l j b) i (suc j) ws d o.1 ∙ get_or-set_other l j i b d o.0

  set_sets : (l : List A) (i : ℕ) (a : A) (j : ℕ) (ws : List A) → (i < j) ⊎ (j + length ws ≤ i)
      → sets (set l i a) j ws ≡ set (sets l j ws) i a
  set_sets l i a j [] h = refl
  set_sets l i a j (b ∷ ws) h =
      let o = off-first i j (length ws) h in
      rw (set_comm l i j a b o.0) (set_sets (set l j b) i a (suc j) ws o.1)

  -- writes to two ranges that do not overlap may be exchanged
  pub sets_sets : (l : List A) (i : ℕ) (vs : List A) (j : ℕ) (ws : List A) → Apart i (length vs) j (length ws)
      → sets (sets l i vs) j ws ≡ sets (sets l j ws) i vs
  sets_sets l i [] j ws h = refl
  sets_sets l i (a ∷ vs) j ws (inl h) =
      sets_sets (set l i a) (suc i) vs j ws (inl (omega arith)) ∙ rw (set_sets l i a j ws (inl (omega arith)))
  sets_sets l i (a ∷ vs) j ws (inr h) =
      sets_sets (set l i a) (suc i) vs j ws (inr (omega arith)) ∙ rw (set_sets l i a j ws (inr (omega arith)))

  -- a later write to the same range is all that is left
  pub sets_twice : (l : List A) (i : ℕ) (vs ws : List A) → length vs ≡ length ws → sets (sets l i vs) i ws ≡ sets l i ws
  sets_twice l i [] ws h = refl
  sets_twice l i (a ∷ vs) [] h = absurd (omega arith)
  sets_twice l i (a ∷ vs) (b ∷ ws) h =
      rw (← set_sets (set l i a) i b (suc i) vs (inl (omega arith)), set-set)
      (sets_twice (set l i b) (suc i) vs ws (omega arith))

  -- what a range holds is not touched by a write to another
  pub slice_sets : (l : List A) (i n j : ℕ) (ws : List A) → Apart i n j (length ws)
      → take n (drop i (sets l j ws)) ≡ take n (drop i l)
  slice_sets l i n j [] h = refl
  slice_sets l i n j (b ∷ ws) (inl h) =
      let q : j ≡ i + (j - i) = omega arith in
      slice_sets (set l j b) i n (suc j) ws (inl (omega arith))
      ∙ rw (q, drop-set-add) (take-set-le n (drop i l) (j - i) b (omega arith))
  slice_sets l i n j (b ∷ ws) (inr h) =
      slice_sets (set l j b) i n (suc j) ws (inr (omega arith)) ∙ rw (drop-set-lt i l j b (omega arith))

-- a turn of a loop over the bytes
pub copy_step : (src dst : List ℕ) (from to n i : ℕ) → i < n → from + i < length src
    → sets dst (to + i) (take (n - i) (drop (from + i) src))
    ≡ sets (set dst (to + i) (get_or src (from + i) 0)) (to + (i + 1)) (take (n - (i + 1)) (drop (from + (i + 1)) src))
copy_step src dst from to n i h k =
    let e : n - i ≡ suc (n - (i + 1)) = omega arith in
    let f : to + (i + 1) ≡ suc (to + i) = omega arith in
    let g : from + (i + 1) ≡ suc (from + i) = omega arith in
    rw (e, drop-cons src (from + i) 0 k, f, g) refl

length-stored : (k : Kind) (i : ℕ) (bs store : List ℕ) → length (stored k i bs store) ≡ length store
unfolding stored
length-stored read i bs store = refl
length-stored write i bs store = length-sets store i bs
length-stored infoRead i bs store = refl

-- Steps leave the store's length as it is.
pub length-after : (ss : List Step) (store : List ℕ) → length (store_after ss store) ≡ length store
unfolding store_after after
length-after [] store = refl
length-after (s ∷ ss) store = length-after ss (after s store) ∙ length-stored s.kind (at s) s.bytes store

-- Steps in two parts: the second part starts from the store that the first leaves.
pub store-after_append : (ss ts : List Step) (store : List ℕ)
    → store_after (ss ++ ts) store ≡ store_after ts (store_after ss store)
unfolding store_after
store-after_append [] ts store = refl
store-after_append (s ∷ ss) ts store = store-after_append ss ts (after s store)

pub values-read_append : (ss ts : List Step) (store : List ℕ)
    → values_read (ss ++ ts) store ≡ values_read ss store ++ values_read ts (store_after ss store)
unfolding store_after values_read
values-read_append [] ts store = refl
values-read_append (s ∷ ss) ts store = rw (values-read_append ss ts (after s store), append_assoc)

answered-element : (k : Kind) (s : Space) → answered k s ≤ (row_by k s).element
unfolding answered row_by is_info area_row
answered-element read s = omega arith
answered-element write s = omega arith
answered-element infoRead s = omega arith

-- an info read has a whole info area
abbrev pub Whole : Step → Type 0
Whole s = is_info s.kind ≡ true → length s.bytes ≡ info_row.bytes

abbrev pub AllWhole : List Step → Type 0
AllWhole [] = Unit
AllWhole (s ∷ ss) = Whole s × AllWhole ss

pub whole_append : (ss ts : List Step) → AllWhole ss → AllWhole ts → AllWhole (ss ++ ts)
whole_append [] ts h k = k
whole_append (s ∷ ss) ts h k = (h.0, whole_append ss ts h.1 k)

-- what a step reads from reaches to the end of its space or area
pub source-end : (k : Kind) (s : Space) (bs store : List ℕ) → length store ≡ store_bytes
    → (is_info k ≡ true → length bs ≡ info_row.bytes)
    → (row_by k s).place + (row_by k s).bytes ≤ length (source k bs store)
unfolding source row_by is_info area_row info_row
source-end read s bs store e h = rw e (row-end s)
source-end write s bs store e h = rw e (row-end s)
source-end infoRead s bs store e h = rw (h refl) (omega arith)

-- Steps that are inside their spaces read as many bytes of a whole store as their reply has.
pub length-values : (ss : List Step) (store : List ℕ) → length store ≡ store_bytes → AllWhole ss → any_step past_end ss ≡ false
    → length (values_read ss store) ≡ reply_bytes ss
unfolding values_read reply_bytes any_step past_end seen at after
length-values [] store e w h = refl
length-values (s ∷ ss) store e w h =
    let r = row_by s.kind s.space in
    let (test, more) = or_false (ltb r.bytes (s.address + r.element)) _ h in
    let inside : s.address + r.element ≤ r.bytes = ltb-false _ _ test in
    let rest = length-values ss (after s store) (length-stored s.kind (at s) s.bytes store ∙ e) w.1 more in
    let end = source-end s.kind s.space s.bytes store e w.0 in
    let room : answered s.kind s.space ≤ length (drop (at s) (source s.kind s.bytes store)) =
    rw length-drop (omega (arith, end, answered-element s.kind s.space)) in
    rw (length-append, rest, length-take-le _ _ room)

-- no write of the steps names byte i of the store
pub data Spared (i : ℕ) : List Step → Type 0 where
  none : Spared i []
  reads : {s : Step} {ss : List Step} → is_write s.kind ≡ false → Spared i ss → Spared i (s ∷ ss)
  misses : {s : Step} {ss : List Step} → (i < at s) ⊎ (at s + length s.bytes ≤ i) → Spared i ss → Spared i (s ∷ ss)

stored_other : (k : Kind) (j : ℕ) (bs store : List ℕ) (i : ℕ) → (i < j) ⊎ (j + length bs ≤ i)
    → get_or (stored k j bs store) i 0 ≡ get_or store i 0
unfolding stored
stored_other read j bs store i h = refl
stored_other write j bs store i h = get_d_sets store i j bs 0 h
stored_other infoRead j bs store i h = refl

-- a step that is no write leaves the store
pub stored-read : (k : Kind) (i : ℕ) (bs store : List ℕ) → is_write k ≡ false → stored k i bs store ≡ store
unfolding stored is_write
stored-read read i bs store e = refl
stored-read write i bs store e = let z : ◌≡◌ {A = ℕ} 0 1 = cc in absurd (omega arith)
stored-read infoRead i bs store e = refl

-- such a byte stays as it is
pub spared_byte : (i : ℕ) (ss : List Step) (store : List ℕ) → Spared i ss → get_or (store_after ss store) i 0 ≡ get_or store i 0
unfolding store_after after
spared_byte i [] store Spared.none = refl
spared_byte i (s ∷ ss) store (Spared.reads e r) = spared_byte i ss (after s store) r ∙ rw (stored-read s.kind (at s) s.bytes store e)
spared_byte i (s ∷ ss) store (Spared.misses h r) =
    spared_byte i ss (after s store) r ∙ stored_other s.kind (at s) s.bytes store i h
