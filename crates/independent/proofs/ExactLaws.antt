-- Lists are independent exactly if both are accepted and neither writes a cell that the other names.
use Prim.Native.Nat.{ℕ, ◌+◌, ◌≤◌}
use mathlib.Core.Path.{◌≡◌, refl, sym, ap, ◌∙◌}
use mathlib.Core.Logic.{◌⊎◌, inl, inr}
use mathlib.Core.List.{List, [], ◌∷◌}
use mathlib.Core.Bool.{Bool, true, false, ◌||◌, ◌&&◌, cond, and-false}
use native.Mathlib.Omega.{arith}
use lib.Dec.{eqb}
use borrow.Author.Tests.{eqb-true, eq-eqb}
use Rattle.lbp16.specs.Space.{space_number}
use Rattle.lbp16.proofs.BoolLaws.{or_false, and_true}
use Rattle.packet.specs.Step.{Step, is_write}
use Rattle.cue.specs.Records.{Listed, refused, records, records_of}
use Rattle.cue.proofs.RecordLaws.{refused_record}
use Rattle.independent.specs.Independent.{Cell, cell_of, same_cell, names, writes, clashes, independent, clash, first_clash}
use Rattle.independent.specs.Independent.{compared, independence}

pub record NeitherWrites (xs ys : List Step) : Type 0 where
  pub first : (c : Cell) → (writes xs c && names ys c) ≡ false
  pub second : (c : Cell) → (names xs c && writes ys c) ≡ false

-- a cell is the same as itself, and what is said of a cell is said of the same cell
same-itself : (c : Cell) → same_cell c c ≡ true
unfolding same_cell
same-itself c = rw (eq-eqb c.address c.address refl, eq-eqb (space_number c.space) (space_number c.space) refl)

module _ (c d : Cell) (e : same_cell c d ≡ true) where
  same_as : (b : Cell) → same_cell b c ≡ same_cell b d
  unfolding same_cell
  same_as b =
      let t = and_true (eqb c.address d.address) _ e in
      rw (eqb-true c.address d.address t.0, eqb-true (space_number c.space) (space_number d.space) t.1) refl

  names_same : (xs : List Step) → names xs c ≡ names xs d
  unfolding names
  names_same [] = refl
  names_same (x ∷ xs) = rw (same_as (cell_of x), names_same xs) refl

  writes-same : (xs : List Step) → writes xs c ≡ writes xs d
  unfolding writes
  writes-same [] = refl
  writes-same (x ∷ xs) = rw (same_as (cell_of x), writes-same xs) refl

-- no clash with the first record, and none with the later ones
first_only : (w n s : Bool) → (s ≡ true → w ≡ false) → (w && n) ≡ false → (w && (s || n)) ≡ false
first_only true n true h e = h refl
first_only true n false h e = e
first_only false n s h e = refl

second_only : (n w v s : Bool) → (s ≡ true → (v && n) ≡ false) → (n && w) ≡ false → (n && ((v && s) || w)) ≡ false
second_only true w true true h e = h refl
second_only true w true false h e = e
second_only true w false s h e = e
second_only false w v s h e = refl

neither-writes : (xs ys : List Step) (index : ℕ) → (first_clash xs index ys).number ≡ 0 → NeitherWrites xs ys
unfolding first_clash names writes clashes
neither-writes xs [] index e = record { first = λ c. and-false (writes xs c); second = λ c. and-false (names xs c) }
neither-writes xs (y ∷ ys) index e = go (clashes xs y) refl e (neither-writes xs ys (index + 1))
  where
    go : (b : Bool) → clashes xs y ≡ b
        → (cond b (clash index) (first_clash xs (index + 1) ys)).number ≡ 0
        → ((first_clash xs (index + 1) ys).number ≡ 0 → NeitherWrites xs ys) → NeitherWrites xs (y ∷ ys)
    go true c e rest = absurd (omega arith)
    go false c e rest =
        let r = rest e in
        let o = or_false (writes xs (cell_of y)) _ c in
        record {
          first =
              λ d. first_only (writes xs d) (names ys d) (same_cell (cell_of y) d) (λ s. sym (writes-same (cell_of y) d s xs) ∙ o.0)
              (r.first d);
          second =
              λ d. second_only (names xs d) (writes ys d) (is_write y.kind) (same_cell (cell_of y) d)
              (λ s. ap (λ n. is_write y.kind && n) (sym (names_same (cell_of y) d s xs)) ∙ o.1)
              (r.second d);
        }

-- and the other way round
later_first : (w n s : Bool) → (w && (s || n)) ≡ false → (w && n) ≡ false
later_first true n true e = let z : ◌≡◌ {A = ℕ} 0 1 = cc in absurd (omega arith)
later_first true n false e = e
later_first false n s e = refl

later_second : (n w v s : Bool) → (n && ((v && s) || w)) ≡ false → (n && w) ≡ false
later_second true w true true e = let z : ◌≡◌ {A = ℕ} 0 1 = cc in absurd (omega arith)
later_second true w true false e = e
later_second true w false s e = e
later_second false w v s e = refl

clear-here : (w n v m k : Bool) → (w && (true || m)) ≡ false → (n && ((v && true) || k)) ≡ false → (w || (v && n)) ≡ false
clear-here true n v m k e f = e
clear-here false true true m k e f = f
clear-here false false true m k e f = refl
clear-here false n false m k e f = refl

no_clash : (xs ys : List Step) (index : ℕ) → NeitherWrites xs ys → first_clash xs index ys ≡ independent
unfolding first_clash names writes clashes
no_clash xs [] index h = refl
no_clash xs (y ∷ ys) index h =
    let c = cell_of y in
    let s = same-itself c in
    let here : clashes xs y ≡ false =
    clear-here (writes xs c) (names xs c) (is_write y.kind) (names ys c) (writes ys c) (rw s at (h.first c)) (rw s at (h.second c)) in
    rw here
    (no_clash xs ys (index + 1)
    (record {
      first = λ d. later_first (writes xs d) (names ys d) (same_cell c d) (h.first d);
      second = λ d. later_second (names xs d) (writes ys d) (is_write y.kind) (same_cell c d) (h.second d);
    }))

-- both accepted, and neither writes a cell that the other names
pub record BothApart (first second : List ℕ) : Type 0 where
  pub xs : List Step
  pub ys : List Step
  pub first-records : records_of first ≡ records xs
  pub second-records : records_of second ≡ records ys
  pub neither : NeitherWrites xs ys

pub independent_only_if : (first second : List ℕ) → (independence first second).number ≡ 0 → BothApart first second
unfolding independence compared
independent_only_if first second e = go (records_of first) (records_of second) refl refl e
  where
    go : (a b : Listed) → records_of first ≡ a → records_of second ≡ b → (compared a b).number ≡ 0 → BothApart first second
    go (refused n i) b p q e = absurd (omega (arith, (refused_record first n i p).in_table))
    go (records xs) (refused n i) p q e = absurd (omega (arith, (refused_record second n i q).in_table))
    go (records xs) (records ys) p q e =
        record { xs = xs; ys = ys; first-records = p; second-records = q; neither = neither-writes xs ys 0 e }

pub independent_if : (first second : List ℕ) → BothApart first second → independence first second ≡ independent
unfolding independence compared
independent_if first second b = rw (b.first-records, b.second-records) (no_clash b.xs b.ys 0 b.neither)

-- The number is 0, a list's own refusal, or 51.
abbrev Numbered : ℕ → Type 0
Numbered n = (n ≡ 0) ⊎ ((21 ≤ n) × (n ≤ 24)) ⊎ (n ≡ 51)

clash-number : (xs : List Step) (index : ℕ) (ys : List Step) → Numbered (first_clash xs index ys).number
unfolding first_clash
clash-number xs index [] = inl refl
clash-number xs index (y ∷ ys) = go (clashes xs y) (clash-number xs (index + 1) ys)
  where
    go : (b : Bool) → Numbered (first_clash xs (index + 1) ys).number
        → Numbered (cond b (clash index) (first_clash xs (index + 1) ys)).number
    go true rest = inr (inr refl)
    go false rest = rest

pub numbers : (first second : List ℕ) → Numbered (independence first second).number
unfolding independence compared
numbers first second = go (records_of first) (records_of second) refl refl
  where
    go : (a b : Listed) → records_of first ≡ a → records_of second ≡ b → Numbered (compared a b).number
    go (refused n i) b p q = inr (inl (refused_record first n i p).in_table)
    go (records xs) (refused n i) p q = inr (inl (refused_record second n i q).in_table)
    go (records xs) (records ys) p q = clash-number xs 0 ys
