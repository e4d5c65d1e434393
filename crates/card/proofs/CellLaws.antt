-- Cells one after the other: the test of their range, what a loop over them keeps, and what the functions leave.
use Prim.Native.Nat.{ℕ, zero, suc, ◌+◌, ◌-◌, ◌*◌, ◌≤◌, ◌<◌}
use mathlib.Core.Path.{◌≡◌, refl, sym, ◌∙◌}
use mathlib.Core.List.{List, [], ◌∷◌, ◌++◌, append_assoc, append-nil}
use mathlib.Core.Bool.{Bool, true, false, ◌||◌, cond}
use native.Mathlib.Omega.{arith}
use native.Mathlib.Nat.{suc-mul, mul-le-mul_left, add-zero}
use native.Mathlib.Numerals.{add-one, sub-one}
use lib.Dec.{leb, ltb}
use lib.ListN.{length, take, drop, get_or, set, length-set, drop_of_length-le}
use lib.Seq.{sets, drop-cons, take-suc-set, take_all, length-sets}
use borrow.Author.Tests.{leb-true, le-leb, le-ltb, ltb-false}
use Rattle.lbp16.proofs.BoolLaws.{and_true, or_false}
use Rattle.packet.specs.Bytes.{number, bytes_of}
use Rattle.packet.proofs.ByteLaws.{length-bytes}
use Rattle.packet.proofs.StoreLaws.{sets_twice}
use Rattle.card.specs.Inside.{Within}
use Rattle.card.specs.Cells.{cells_within, cells, filled, cells_read, cells_written}
use Rattle.card.proofs.CopyLaws.{last_within}

-- The test of a range: of the first cell, and of the others.
pub within-next : (n a d bytes : ℕ) → cells_within (suc n) a d bytes ≡ true
    → (d ≤ 4) × (a + 4 ≤ bytes) × (cells_within n (a + d) d bytes ≡ true)
unfolding cells_within
within-next n a d bytes e =
    let (near, end) = and_true (leb d 4) (leb (a + n * d + 4) bytes) e in
    let last = leb-true (a + n * d + 4) bytes end in
    (leb-true d 4 near, omega arith, others n last near)
  where
    others : (n : ℕ) → a + n * d + 4 ≤ bytes → leb d 4 ≡ true → cells_within n (a + d) d bytes ≡ true
    others zero h near = refl
    others (suc n) h near = let q = suc-mul n d in rw (near, le-leb (a + d + n * d + 4) bytes (omega arith)) refl

-- Cells at most 4 apart pass it exactly when each of them ends within the bytes.
pub each_within : (n a d bytes : ℕ) → cells_within n a d bytes ≡ true → Within n a d 4 bytes
each_within zero a d bytes e = tt
each_within (suc n) a d bytes e =
    let (near, first, others) = within-next n a d bytes e in
    (first, each_within n (a + d) d bytes others)

pub all-within : (n a d bytes : ℕ) → d ≤ 4 → Within n a d 4 bytes → cells_within n a d bytes ≡ true
unfolding cells_within
all-within zero a d bytes near w = refl
all-within (suc n) a d bytes near w = rw (le-leb d 4 near, le-leb (a + n * d + 4) bytes (last_within n a d 4 bytes w)) refl

-- As the code tests it: no cells, cells too far apart or from beyond the end, and others.
pub within_none : (n a d bytes : ℕ) → n ≡ 0 → true ≡ cells_within n a d bytes
unfolding cells_within
within_none zero a d bytes e = refl
within_none (suc n) a d bytes e = absurd (omega arith)

pub not_within : (n a d bytes : ℕ) → (n ≡ 0 → ⊥) → (ltb 4 d || ltb bytes a) ≡ true → false ≡ cells_within n a d bytes
unfolding cells_within
not_within zero a d bytes some e = absurd (some refl)
not_within (suc n) a d bytes some e = by_answer (cells_within (suc n) a d bytes) refl
  where
    by_answer : (b : Bool) → cells_within (suc n) a d bytes ≡ b → false ≡ b
    by_answer true t =
        let (near, first, others) = within-next n a d bytes t in
        let neither = rw (le-ltb 4 d near, le-ltb bytes a (omega arith)) at e in
        let z : ◌≡◌ {A = ℕ} 0 1 = cc in absurd (omega arith)
    by_answer false t = refl

pub within-last : (n a d bytes : ℕ) → (n ≡ 0 → ⊥) → (ltb 4 d || ltb bytes a) ≡ false
    → leb (a + (n - 1) * d + 4) bytes ≡ cells_within n a d bytes
unfolding cells_within
within-last zero a d bytes some e = absurd (some refl)
within-last (suc n) a d bytes some e =
    let near = ltb-false 4 d (or_false _ _ e).0 in
    rw (sub-one, le-leb d 4 near) refl

-- and then no sum is too large
pub sum_fits : (n a d bytes : ℕ) → (ltb 4 d || ltb bytes a) ≡ false → (a ≤ bytes) × ((n - 1) * d ≤ (n - 1) * 4)
sum_fits n a d bytes e =
    let (near, low) = or_false (ltb 4 d) (ltb bytes a) e in
    (ltb-false bytes a low, mul-le-mul_left (n - 1) (ltb-false 4 d near))

-- Before turn i of the loop that reads: the cells read so far stand in the answer, after its first word.
pub record Reading (store : List ℕ) (from stride : ℕ) (start answer : List ℕ) (at i : ℕ) : Type 0 where
  pub high : i ≤ length answer
  pub same : length answer ≡ length start
  pub inside : cells_within (length answer - i) at stride (length store) ≡ true
  pub done : take i answer ++ cells (length answer - i) at stride store ≡ 0 ∷ cells (length start - 1) from stride store

pub reading_starts : (store answer : List ℕ) (from stride : ℕ) → 1 ≤ length answer
    → cells_within (length answer - 1) from stride (length store) ≡ true
    → Reading store from stride (set answer 0 0) (set answer 0 0) from 1
reading_starts store [] from stride h w = absurd (omega arith)
reading_starts store (x ∷ xs) from stride h w =
    record { high = omega arith; same = refl; inside = w; done = refl }

-- at turn i of n
turn-within : (n i a d bytes : ℕ) → i < n → cells_within (n - i) a d bytes ≡ true
    → (d ≤ 4) × (a + 4 ≤ bytes) × (cells_within (n - (i + 1)) (a + d) d bytes ≡ true)
turn-within n i a d bytes h w =
    let e : n - i ≡ suc (n - (i + 1)) = omega arith in within-next (n - (i + 1)) a d bytes (rw e at w)

module _ {store : List ℕ} {from stride : ℕ} {start answer : List ℕ} {at i : ℕ} where
  pub reading-inside : Reading store from stride start answer at i → i < length answer → (stride ≤ 4) × (at + 4 ≤ length store)
  reading-inside r h =
      let (near, first, others) = turn-within (length answer) i at stride (length store) h r.inside in
      (near, first)

  pub reading-next : Reading store from stride start answer at i → i < length answer → (v : ℕ)
      → v ≡ number (take 4 (drop at store)) → Reading store from stride start (set answer i v) (at + stride) (i + 1)
  unfolding cells
  reading-next r h v e =
      let left : length answer - i ≡ suc (length answer - (i + 1)) = omega arith in
      let (near, first, others) = turn-within (length answer) i at stride (length store) h r.inside in
      record {
        high = rw length-set (omega arith);
        same = rw length-set r.same;
        inside = rw length-set others;
        done = rw (length-set, add-one, take-suc-set answer i v h, append_assoc, ← add-one i, e) (rw left at r.done);
      }

  pub reading-ends : Reading store from stride start answer at i → length answer ≤ i
      → answer ≡ 0 ∷ cells (length start - 1) from stride store
  unfolding cells
  reading-ends r h =
      let none : length answer - i ≡ 0 = omega arith in
      let all = rw (none, take_all i answer h, append-nil) at r.done in
      all

-- Before turn i of the loop that writes: the words before i are in their cells.
pub record Writing (words store₀ : List ℕ) (from stride : ℕ) (store : List ℕ) (at i : ℕ) : Type 0 where
  pub high : i ≤ length words
  pub same : length store ≡ length store₀
  pub inside : cells_within (length words - i) at stride (length store) ≡ true
  pub done : filled (drop i words) at stride store ≡ filled (drop 1 words) from stride store₀

pub writing_starts : (words store : List ℕ) (from stride : ℕ) → 1 ≤ length words
    → cells_within (length words - 1) from stride (length store) ≡ true → Writing words store from stride store from 1
writing_starts words store from stride h w = record { high = h; same = refl; inside = w; done = refl }

module _ {words store₀ : List ℕ} {from stride : ℕ} {store : List ℕ} {at i : ℕ} where
  pub writing-inside : Writing words store₀ from stride store at i → i < length words → (stride ≤ 4) × (at + 4 ≤ length store)
  writing-inside r h =
      let (near, first, others) = turn-within (length words) i at stride (length store) h r.inside in
      (near, first)

  pub writing-next : Writing words store₀ from stride store at i → i < length words → (next : List ℕ)
      → next ≡ sets store at (bytes_of 4 (get_or words i 0)) → Writing words store₀ from stride next (at + stride) (i + 1)
  unfolding filled
  writing-next r h next e =
      let (near, first, others) = turn-within (length words) i at stride (length store) h r.inside in
      record {
        high = omega arith;
        same = rw (e, length-sets) r.same;
        inside = rw (e, length-sets) others;
        done = rw (e, add-one) (rw (drop-cons words i 0 h) at r.done);
      }

  pub writing-ends : Writing words store₀ from stride store at i → length words ≤ i → store ≡ filled (drop 1 words) from stride store₀
  unfolding filled
  writing-ends r h = rw (drop_of_length-le words h) at r.done

-- Of words that go into one cell the last stays there.
last-filled : (w : ℕ) (ws : List ℕ) (a : ℕ) (store : List ℕ)
    → sets store a (bytes_of 4 (get_or (w ∷ ws) (length ws) 0)) ≡ filled (w ∷ ws) a 0 store
unfolding filled
last-filled w [] a store = refl
last-filled w (v ∷ vs) a store =
    let last = get_or (v ∷ vs) (length vs) 0 in
    let same : length (bytes_of 4 w) ≡ length (bytes_of 4 last) = length-bytes 4 w ∙ sym (length-bytes 4 last) in
    sym (sets_twice store a (bytes_of 4 w) (bytes_of 4 last) same)
    ∙ (rw (add-zero a) (last-filled v vs a (sets store a (bytes_of 4 w))))

pub one-within : (words : List ℕ) (a bytes : ℕ) → 2 ≤ length words → cells_within (length words - 1) a 0 bytes ≡ true → a + 4 ≤ bytes
one-within [] a bytes h e = absurd (omega arith)
one-within (w ∷ []) a bytes h e = absurd (omega arith)
one-within (w ∷ v ∷ vs) a bytes h e = (within-next (length vs) a 0 bytes (rw sub-one at e)).1

pub last-stays : (words : List ℕ) (a : ℕ) (store : List ℕ) → 2 ≤ length words
    → sets store a (bytes_of 4 (get_or words (length words - 1) 0)) ≡ filled (drop 1 words) a 0 store
last-stays [] a store h = absurd (omega arith)
last-stays (w ∷ []) a store h = absurd (omega arith)
last-stays (w ∷ v ∷ vs) a store h = rw sub-one (last-filled v vs a store)

pub none_stays : (words : List ℕ) (a : ℕ) (store : List ℕ) → length words ≡ 1 → store ≡ filled (drop 1 words) a 0 store
unfolding filled
none_stays [] a store h = absurd (omega arith)
none_stays (w ∷ []) a store h = refl
none_stays (w ∷ v ∷ vs) a store h = absurd (omega arith)

-- What is left: by whether there is a first word, and whether all cells are within the store.
pub read_none : (store : List ℕ) (a d : ℕ) (answer : List ℕ) → length answer ≡ 0 → answer ≡ cells_read store a d answer
unfolding cells_read
read_none store a d [] e = refl
read_none store a d (w ∷ ws) e = absurd (omega arith)

pub read_by : (store : List ℕ) (a d : ℕ) (answer : List ℕ) → (length answer ≡ 0 → ⊥) → (b : Bool)
    → cells_within (length answer - 1) a d (length store) ≡ b
    → cells_read store a d answer ≡ cond b (0 ∷ cells (length answer - 1) a d store) answer
unfolding cells_read
read_by store a d [] some b e = absurd (some refl)
read_by store a d (w ∷ ws) some b e =
    let test : cells_within (length ws) a d (length store) ≡ b = rw sub-one at e in
    rw (sub-one, test) refl

pub written_none : (words : List ℕ) (a d : ℕ) (store : List ℕ) → length words ≡ 0 → store ≡ cells_written words a d store
unfolding cells_written
written_none [] a d store e = refl
written_none (w ∷ ws) a d store e = absurd (omega arith)

pub written-by : (words : List ℕ) (a d : ℕ) (store : List ℕ) → (length words ≡ 0 → ⊥) → (b : Bool)
    → cells_within (length words - 1) a d (length store) ≡ b
    → cells_written words a d store ≡ cond b (filled (drop 1 words) a d store) store
unfolding cells_written
written-by [] a d store some b e = absurd (some refl)
written-by (w ∷ ws) a d store some b e =
    let test : cells_within (length ws) a d (length store) ≡ b = rw sub-one at e in
    rw test refl
