-- Steps of which neither writes what the other names may be exchanged.
use Prim.Native.Nat.{ℕ, ◌≤◌}
use mathlib.Core.Path.{◌≡◌, refl, sym, ap, ◌∙◌}
use mathlib.Core.Logic.{inl, inr}
use mathlib.Core.Bool.{false}
use mathlib.Core.List.{List, [], ◌∷◌}
use native.Mathlib.Omega.{arith}
use lib.ListN.{length, take, drop}
use Rattle.lbp16.specs.Space.{Space, row}
use Rattle.packet.specs.Step.{Kind, read, write, infoRead, Step, at, answered, source, stored, after, seen, store_after, values_read, is_write}
use Rattle.packet.proofs.StoreLaws.{Apart, sets_sets, slice_sets, stored-read}

-- the bytes of a step's element
abbrev pub width : Step → ℕ
width x = (row x.space).element

-- both read, or they name elements that do not overlap
pub data Clear (x y : Step) : Type 0 where
  reads : is_write x.kind ≡ false → is_write y.kind ≡ false → Clear x y
  apart : Apart (at x) (width x) (at y) (width y) → length x.bytes ≤ width x → length y.bytes ≤ width y → Clear x y

-- each of the steps, with one; and with each of others
pub data ClearOf : List Step → Step → Type 0 where
  none : {y : Step} → ClearOf [] y
  more : {x y : Step} {xs : List Step} → Clear x y → ClearOf xs y → ClearOf (x ∷ xs) y

pub data AllClear : List Step → List Step → Type 0 where
  none : {xs : List Step} → AllClear xs []
  more : {y : Step} {xs ys : List Step} → ClearOf xs y → AllClear xs ys → AllClear xs (y ∷ ys)

-- a part of each of two elements that do not overlap
narrower : (x y : Step) (k l : ℕ) → k ≤ width x → l ≤ width y → Apart (at x) (width x) (at y) (width y)
    → Apart (at x) k (at y) l
narrower x y k l h g (inl a) = inl (omega arith)
narrower x y k l h g (inr a) = inr (omega arith)

swapped : (i n j m : ℕ) → Apart i n j m → Apart j m i n
swapped i n j m (inl a) = inr a
swapped i n j m (inr a) = inl a

stored-stored : (k : Kind) (i : ℕ) (bs : List ℕ) (l : Kind) (j : ℕ) (cs store : List ℕ)
    → Apart i (length bs) j (length cs) → stored l j cs (stored k i bs store) ≡ stored k i bs (stored l j cs store)
unfolding stored
stored-stored read i bs l j cs store h = refl
stored-stored infoRead i bs l j cs store h = refl
stored-stored write i bs read j cs store h = refl
stored-stored write i bs infoRead j cs store h = refl
stored-stored write i bs write j cs store h = sets_sets store i bs j cs h

slice_stored : (k : Kind) (s : Space) (i : ℕ) (bs : List ℕ) (l : Kind) (j : ℕ) (cs store : List ℕ)
    → Apart i (row s).element j (length cs)
    → take (answered k s) (drop i (source k bs (stored l j cs store))) ≡ take (answered k s) (drop i (source k bs store))
unfolding stored answered source
slice_stored read s i bs read j cs store h = refl
slice_stored read s i bs infoRead j cs store h = refl
slice_stored read s i bs write j cs store h = slice_sets store i (row s).element j cs h
slice_stored write s i bs l j cs store h = refl
slice_stored infoRead s i bs l j cs store h = refl

-- one step past another
module _ (x y : Step) (store : List ℕ) where
  after-after : Clear x y → after y (after x store) ≡ after x (after y store)
  unfolding after
  after-after (Clear.reads e f) =
      rw (stored-read x.kind (at x) x.bytes store e, stored-read y.kind (at y) y.bytes store f)
      (sym (stored-read x.kind (at x) x.bytes store e))
  after-after (Clear.apart a m n) =
      stored-stored x.kind (at x) x.bytes y.kind (at y) y.bytes store (narrower x y _ _ m n a)

  seen-second : Clear x y → seen y (after x store) ≡ seen y store
  unfolding after seen
  seen-second (Clear.reads e f) = rw (stored-read x.kind (at x) x.bytes store e)
  seen-second (Clear.apart a m n) =
      slice_stored y.kind y.space (at y) y.bytes x.kind (at x) x.bytes store (swapped (at x) _ (at y) _ (narrower x y _ _ m (omega arith) a))

  seen_first : Clear x y → seen x (after y store) ≡ seen x store
  unfolding after seen
  seen_first (Clear.reads e f) = rw (stored-read y.kind (at y) y.bytes store f)
  seen_first (Clear.apart a m n) =
      slice_stored x.kind x.space (at x) x.bytes y.kind (at y) y.bytes store (narrower x y _ _ (omega arith) n a)

-- one step past a list of steps: what is left, what it reads, and what they read
record Past (xs : List Step) (y : Step) (store : List ℕ) : Type 0 where
  left : after y (store_after xs store) ≡ store_after xs (after y store)
  one : seen y (store_after xs store) ≡ seen y store
  others : values_read xs (after y store) ≡ values_read xs store

past : {xs : List Step} {y : Step} → ClearOf xs y → (store : List ℕ) → Past xs y store
unfolding store_after values_read
past ClearOf.none store = record { left = refl; one = refl; others = refl }
past {y = y} (ClearOf.more {x = x} {xs = xs} c r) store =
    let p = past r (after x store) in
    let e = after-after x y store c in
    record {
      left = p.left ∙ ap (store_after xs) e;
      one = p.one ∙ seen-second x y store c;
      others = rw (seen_first x y store c, ← e, p.others);
    }

-- Two lists of steps: either order leaves the same store, and each reads the same values before the other and after it.
pub record Commute (xs ys : List Step) (store : List ℕ) : Type 0 where
  pub left : store_after ys (store_after xs store) ≡ store_after xs (store_after ys store)
  pub first : values_read xs (store_after ys store) ≡ values_read xs store
  pub second : values_read ys (store_after xs store) ≡ values_read ys store

pub commute : {xs ys : List Step} → AllClear xs ys → (store : List ℕ) → Commute xs ys store
unfolding store_after values_read
commute AllClear.none store = record { left = refl; first = refl; second = refl }
commute (AllClear.more {y = y} {ys = ys} c r) store =
    let p = past c store in
    let q = commute r (after y store) in
    record {
      left = ap (store_after ys) p.left ∙ q.left;
      first = q.first ∙ p.others;
      second = rw (p.one, p.left, q.second);
    }
