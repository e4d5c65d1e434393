-- The table of marks: what it holds after one record more, and what it tells of a record.
use Prim.Native.Nat.{ℕ, zero, suc, ◌+◌, ◌*◌, ◌/◌, ◌%◌, ◌<◌}
use mathlib.Core.Path.{◌≡◌, refl, sym, ap, ◌∙◌}
use mathlib.Core.List.{List, [], ◌∷◌, ◌++◌}
use mathlib.Core.Bool.{Bool, true, false, ◌||◌, ◌&&◌, cond, or-false, or_assoc}
use native.Mathlib.Omega.{arith}
use lib.Dec.{eqb}
use lib.ListN.{length, get_or, set, length-set}
use lib.Seq.{get_or-set_same, get_or-set_other}
use borrow.Author.Tests.{eqb-true, eqb-false, eq-eqb, ne_eqb}
use Rattle.lbp16.specs.Space.{store_bytes}
use Rattle.packet.specs.Step.{Step, is_write}
use Rattle.independent.specs.Independent.{Cell, cell_of, same_cell, names, writes, clashes}
use Rattle.independent.specs.Inside.{Present, place_of, mark_by, marked_by, clashes_with, mark_in, picked, with_mark}
use Rattle.independent.specs.Inside.{byte_of, slot_of, mark_at, table_bytes, Marked}
use Rattle.independent.proofs.PlaceLaws.{place-even, place_inside, same_place}

-- no records leave no mark
mark-empty : (slot : ℕ) → mark_in 0 slot ≡ 0
unfolding mark_in
mark-empty slot = go (eqb slot 0) (eqb slot 1) (eqb slot 2)
  where
    go : (a b c : Bool) → cond a (0 % 4) (cond b (0 / 4 % 4) (cond c (0 / 16 % 4) (0 / 64 % 4))) ≡ 0
    go true b c = refl
    go false true c = refl
    go false false true = refl
    go false false false = refl

pub marked-none : (marks : List ℕ) → length marks ≡ table_bytes → ((i : ℕ) → get_or marks i 0 ≡ 0) → Marked [] marks
unfolding mark_by names writes mark_at
marked-none marks l z = record { bytes = l; held = λ c p. rw (z (byte_of (place_of c))) (mark-empty (slot_of (place_of c))) }

-- Four marks in a byte, and each of them again.
record Digits (n a b c d : ℕ) : Type 0 where
  first : n % 4 ≡ a
  second : n / 4 % 4 ≡ b
  third : n / 16 % 4 ≡ c
  fourth : n / 64 % 4 ≡ d

digits : (a b c d : ℕ) → a < 4 → b < 4 → c < 4 → d < 4 → Digits (a + 4 * b + 16 * c + 64 * d) a b c d
digits a b c d p q r s = record { first = omega arith; second = omega arith; third = omega arith; fourth = omega arith }

mark-below : (byte slot : ℕ) → mark_in byte slot < 4
unfolding mark_in
mark-below byte slot = go (eqb slot 0) (eqb slot 1) (eqb slot 2)
  where
    go : (a b c : Bool) → cond a (byte % 4) (cond b (byte / 4 % 4) (cond c (byte / 16 % 4) (byte / 64 % 4))) < 4
    go true b c = omega arith
    go false true c = omega arith
    go false false true = omega arith
    go false false false = omega arith

picked-below : (byte slot mark k : ℕ) → mark < 4 → picked byte slot mark k < 4
unfolding picked
picked-below byte slot mark k m = go (eqb slot k)
  where
    go : (b : Bool) → cond b mark (mark_in byte k) < 4
    go true = m
    go false = mark-below byte k

-- A slot of a byte with another mark in one slot holds that mark, or what it held.
mark-picked : (byte slot mark : ℕ) → mark < 4 → (k : ℕ) → k < 4 → mark_in (with_mark byte slot mark) k ≡ picked byte slot mark k
unfolding mark_in with_mark
mark-picked byte slot mark m k l = go k l
  where
    below : (k : ℕ) → picked byte slot mark k < 4
    below k = picked-below byte slot mark k m

    all : Digits (with_mark byte slot mark) (picked byte slot mark 0) (picked byte slot mark 1) (picked byte slot mark 2)
        (picked byte slot mark 3)
    all = digits _ _ _ _ (below 0) (below 1) (below 2) (below 3)

    go : (k : ℕ) → k < 4 → mark_in (with_mark byte slot mark) k ≡ picked byte slot mark k
    go zero l = all.first
    go (suc zero) l = all.second
    go (suc (suc zero)) l = all.third
    go (suc (suc (suc zero))) l = all.fourth
    go (suc (suc (suc (suc k)))) l = absurd (omega arith)

-- a byte made again of its four marks, as the code has them
pub byte-again : (byte slot mark m a b c d : ℕ) → m ≡ mark → a ≡ picked byte slot m 0 → b ≡ picked byte slot m 1
    → c ≡ picked byte slot m 2 → d ≡ picked byte slot m 3 → a + 4 * b + 16 * c + 64 * d ≡ with_mark byte slot mark
unfolding with_mark
byte-again byte slot mark m a b c d e p q r s = rw (p, q, r, s, e) refl

-- what one record more at the end names and writes
module _ (x : Step) (c : Cell) where
  names_more : (xs : List Step) → names (xs ++ (x ∷ [])) c ≡ (names xs c || same_cell (cell_of x) c)
  unfolding names
  names_more [] = or-false (same_cell (cell_of x) c)
  names_more (y ∷ ys) = ap (λ b. same_cell (cell_of y) c || b) (names_more ys) ∙ sym (or_assoc (same_cell (cell_of y) c) _ _)

  writes_more : (xs : List Step)
      → writes (xs ++ (x ∷ [])) c ≡ (writes xs c || (is_write x.kind && same_cell (cell_of x) c))
  unfolding writes
  writes_more [] = or-false (is_write x.kind && same_cell (cell_of x) c)
  writes_more (y ∷ ys) =
      let b = is_write y.kind && same_cell (cell_of y) c in
      ap (λ d. b || d) (writes_more ys) ∙ sym (or_assoc b _ _)

-- a cell's mark with one record more: at the record's cell, and elsewhere
mark-there : (named written write : Bool)
    → marked_by (mark_by named written) write ≡ mark_by (named || true) (written || (write && true))
unfolding marked_by mark_by
mark-there named true true = refl
mark-there named true false = refl
mark-there named false true = refl
mark-there true false false = refl
mark-there false false false = refl

mark_elsewhere : (named written write : Bool) → mark_by named written ≡ mark_by (named || false) (written || (write && false))
unfolding mark_by
mark_elsewhere true true write = refl
mark_elsewhere true false true = refl
mark_elsewhere true false false = refl
mark_elsewhere false true write = refl
mark_elsewhere false false true = refl
mark_elsewhere false false false = refl

mark-few : (old : ℕ) (write : Bool) → marked_by old write < 4
unfolding marked_by
mark-few old write = go (write || eqb old 2)
  where
    go : (b : Bool) → cond b 2 1 < 4
    go true = omega arith
    go false = omega arith

-- the table with one more mark
unfoldable pub after : List ℕ → ℕ → ℕ → List ℕ
after marks at mark = set marks (byte_of at) (with_mark (get_or marks (byte_of at) 0) (slot_of at) mark)

-- The mark at that place, and at another.
module _ (marks : List ℕ) (at mark : ℕ) (few : mark < 4) (within : at < store_bytes) (size : length marks ≡ table_bytes) where
  pub mark-here : mark_at (after marks at mark) at ≡ mark
  unfolding mark_at after picked
  mark-here =
      rw (get_or-set_same marks (byte_of at) (with_mark (get_or marks (byte_of at) 0) (slot_of at) mark) 0 (rw size (omega arith)))
      (mark-picked (get_or marks (byte_of at) 0) (slot_of at) mark few (slot_of at) (omega arith)
      ∙ rw (eq-eqb (slot_of at) (slot_of at) refl) refl)

  pub mark-away : (place : ℕ) → at % 2 ≡ 0 → place % 2 ≡ 0 → (place ≡ at → ⊥) → mark_at (after marks at mark) place ≡ mark_at marks place
  unfolding mark_at after picked
  mark-away place even evenly other = go (eqb (byte_of at) (byte_of place)) refl
    where
      go : (b : Bool) → eqb (byte_of at) (byte_of place) ≡ b → mark_at (after marks at mark) place ≡ mark_at marks place
      go true e =
          let q : byte_of place ≡ byte_of at = sym (eqb-true (byte_of at) (byte_of place) e) in
          let slots : slot_of at ≡ slot_of place → ⊥ = λ s. other (omega arith) in
          rw (
            q,
            get_or-set_same marks (byte_of at) (with_mark (get_or marks (byte_of at) 0) (slot_of at) mark) 0 (rw size (omega arith)),
          )
          (mark-picked (get_or marks (byte_of at) 0) (slot_of at) mark few (slot_of place) (omega arith)
          ∙ rw (ne_eqb (slot_of at) (slot_of place) slots) refl)
      go false e =
          ap (λ n. mark_in n (slot_of place))
          (get_or-set_other marks (byte_of at) (byte_of place) _ 0 (λ f. eqb-false (byte_of at) (byte_of place) e (sym f)))

pub marked_more : (xs : List Step) (x : Step) (marks : List ℕ) → Marked xs marks → Present (cell_of x)
    → Marked (xs ++ (x ∷ []))
    (after marks (place_of (cell_of x)) (marked_by (mark_at marks (place_of (cell_of x))) (is_write x.kind)))
unfolding after
marked_more xs x marks m p =
    record {
      bytes = length-set marks (byte_of at) _ ∙ m.bytes;
      held = λ c q. rw (names_more x c xs, writes_more x c xs, same_place (cell_of x) c p q) (go c q (eqb at (place_of c)) refl);
    }
  where
    at : ℕ
    at = place_of (cell_of x)

    next : ℕ
    next = marked_by (mark_at marks at) (is_write x.kind)

    few : next < 4
    few = mark-few (mark_at marks at) (is_write x.kind)

    go : (c : Cell) → Present c → (b : Bool) → eqb at (place_of c) ≡ b
        → mark_at (after marks at next) (place_of c) ≡ mark_by (names xs c || b) (writes xs c || (is_write x.kind && b))
    go c q true e =
        let f : place_of c ≡ at = sym (eqb-true _ _ e) in
        ap (mark_at (after marks at next)) f
        ∙ mark-here marks at next few (place_inside (cell_of x) p) m.bytes
        ∙ ap (λ n. marked_by n (is_write x.kind)) (ap (mark_at marks) (sym f) ∙ m.held c q)
        ∙ mark-there (names xs c) (writes xs c) (is_write x.kind)
    go c q false e =
        let n = eqb-false _ _ e in
        mark-away marks at next few (place_inside (cell_of x) p) m.bytes (place_of c) (place-even (cell_of x) p) (place-even c q)
        (λ f. n (sym f))
        ∙ m.held c q
        ∙ mark_elsewhere (names xs c) (writes xs c) (is_write x.kind)

-- the mark at a record's cell tells whether it clashes
pub clash-told : (xs : List Step) (y : Step) (marks : List ℕ) → Marked xs marks → Present (cell_of y)
    → clashes_with (mark_at marks (place_of (cell_of y))) (is_write y.kind) ≡ clashes xs y
unfolding clashes clashes_with mark_by
clash-told xs y marks m p =
    ap (λ n. clashes_with n (is_write y.kind)) (m.held (cell_of y) p)
    ∙ go (names xs (cell_of y)) (writes xs (cell_of y)) (is_write y.kind)
  where
    go : (named written write : Bool) → clashes_with (mark_by named written) write ≡ (written || (write && named))
    go named true write = refl
    go true false true = refl
    go true false false = refl
    go false false true = refl
    go false false false = refl
