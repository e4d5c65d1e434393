-- A good record's cell is known by where it stands in the store, and two cells do not overlap.
use Prim.Native.Nat.{ℕ, ◌+◌, ◌%◌, ◌≤◌, ◌<◌}
use mathlib.Core.Path.{◌≡◌, refl, sym, ap, ◌∙◌}
use mathlib.Core.Logic.{◌⊎◌, inl, inr, ◌≢◌}
use mathlib.Core.List.{List, [], ◌∷◌}
use mathlib.Core.Bool.{Bool, true, false, ◌||◌, ◌&&◌, cond}
use native.Mathlib.Omega.{arith}
use native.Mathlib.Decide.{dec_le}
use lib.Dec.{eqb, ltb}
use lib.ListN.{length}
use borrow.Author.Tests.{eqb-true, eqb-false, eq-eqb, ltb-false, not-false, lt-ltb, le-ltb}
use Rattle.lbp16.specs.Space.{Space, registers, eeprom, status, information, absent, space_of, is_absent, row, space_number, store_bytes}
use Rattle.lbp16.proofs.SpaceLaws.{row-end, element_nonzero}
use Rattle.packet.specs.Step.{Kind, read, write, infoRead, Step, is_info, row_by, at, carried, is_write}
use Rattle.packet.specs.Rules.{misaligned, past_end}
use Rattle.packet.proofs.StoreLaws.{Apart}
use Rattle.packet.proofs.StepLaws.{row_plain}
use Rattle.cue.specs.Records.{bad_element}
use Rattle.cue.proofs.Relations.{Good}
use Rattle.cue.proofs.RecordLaws.{good-element}
use Rattle.cue.proofs.PackingLaws.{space-again}
use Rattle.independent.specs.Independent.{Cell, cell_of, same_cell, names, writes, clashes, clash, first_clash}
use Rattle.independent.specs.Inside.{Present, place_of}
use Rattle.independent.proofs.CommuteLaws.{width, Clear, ClearOf, AllClear}

space_at : ℕ → Space
space_at n =
    cond (ltb n 65536) registers (cond (ltb n 65664) eeprom (cond (ltb n 65696) status information))

-- Where a cell stands in the store tells its space, and is inside the store.
space-at : (s : Space) (a : ℕ) → is_absent s ≡ false → a < (row s).bytes → s ≡ space_at ((row s).place + a)
unfolding row is_absent space_at
space-at registers a p e = rw (lt-ltb (0 + a) 65536 (omega arith)) refl
space-at eeprom a p e = rw (le-ltb (65536 + a) 65536 (omega arith), lt-ltb (65536 + a) 65664 (omega arith)) refl
space-at status a p e =
    rw (
      le-ltb (65664 + a) 65536 (omega arith),
      le-ltb (65664 + a) 65664 (omega arith),
      lt-ltb (65664 + a) 65696 (omega arith),
    )
    refl
space-at information a p e =
    rw (
      le-ltb (65696 + a) 65536 (omega arith),
      le-ltb (65696 + a) 65664 (omega arith),
      le-ltb (65696 + a) 65696 (omega arith),
    )
    refl
space-at absent a p e = let z : ◌≡◌ {A = ℕ} 0 1 = cc in absurd (omega arith)

-- a cell stands at an even place
pub place-even : (c : Cell) → Present c → place_of c % 2 ≡ 0
unfolding place_of row is_absent
place-even c p = go c.space p.space p.aligned
  where
    go : (s : Space) → is_absent s ≡ false → c.address % (row s).element ≡ 0 → ((row s).place + c.address) % 2 ≡ 0
    go registers a m = omega arith
    go eeprom a m = omega arith
    go status a m = omega arith
    go information a m = omega arith
    go absent a m = let z : ◌≡◌ {A = ℕ} 0 1 = cc in absurd (omega arith)

pub place_inside : (c : Cell) → Present c → place_of c < store_bytes
unfolding place_of
place_inside c p = omega (arith, row-end c.space, p.inside)

-- Two cells are the same exactly if they stand at the same place.
module _ (c d : Cell) where
  place-of_cell : c.address ≡ d.address → space_number c.space ≡ space_number d.space → place_of c ≡ place_of d
  unfolding place_of
  place-of_cell e f =
      let s : c.space ≡ d.space = sym (space-again c.space) ∙ ap space_of f ∙ space-again d.space in
      rw (e, s) refl

  cell-of_place : Present c → Present d → place_of c ≡ place_of d → (c.space ≡ d.space) × (c.address ≡ d.address)
  unfolding place_of
  cell-of_place p q e =
      let a = space-at c.space c.address p.space p.inside in
      let b = space-at d.space d.address q.space q.inside in
      let s : c.space ≡ d.space = a ∙ ap space_at e ∙ sym b in
      let r : (row c.space).place ≡ (row d.space).place = ap (λ s. (row s).place) s in
      (s, omega arith)

  pub same_place : Present c → Present d → same_cell c d ≡ eqb (place_of c) (place_of d)
  unfolding same_cell
  same_place p q = go (eqb (place_of c) (place_of d)) refl
    where
      other : (a s : Bool) → eqb c.address d.address ≡ a → eqb (space_number c.space) (space_number d.space) ≡ s
          → place_of c ≢ place_of d → (a && s) ≡ false
      other true true e f h = absurd (h (place-of_cell (eqb-true _ _ e) (eqb-true _ _ f)))
      other true false e f h = refl
      other false s e f h = refl

      go : (b : Bool) → eqb (place_of c) (place_of d) ≡ b
          → (eqb c.address d.address && eqb (space_number c.space) (space_number d.space)) ≡ b
      go true e =
          let f = cell-of_place p q (eqb-true _ _ e) in
          rw (eq-eqb _ _ f.1, eq-eqb _ _ (ap space_number f.0))
      go false e = other _ _ refl refl (eqb-false _ _ e)

-- An element of w bytes at place n: a register, or one of the 2-byte elements behind the registers.
abbrev Fit : ℕ → ℕ → Type 0
Fit n w = ((w ≡ 4) × (n % 4 ≡ 0) × (n + 4 ≤ 65536)) ⊎ ((w ≡ 2) × (n % 2 ≡ 0) × (65536 ≤ n))

fit_in : (s : Space) (a : ℕ) → is_absent s ≡ false → a % (row s).element ≡ 0 → a + (row s).element ≤ (row s).bytes
    → Fit ((row s).place + a) (row s).element
unfolding row is_absent
fit_in registers a p m e = inl (refl, omega arith, omega arith)
fit_in eeprom a p m e = inr (refl, omega arith, omega arith)
fit_in status a p m e = inr (refl, omega arith, omega arith)
fit_in information a p m e = inr (refl, omega arith, omega arith)
fit_in absent a p m e = let z : ◌≡◌ {A = ℕ} 0 1 = cc in absurd (omega arith)

-- two elements at different places do not overlap
ordered : (n w m v : ℕ) → n ≢ m → (n < m → n + w ≤ m) → (m < n → m + v ≤ n) → Apart n w m v
ordered n w m v h a b = go (dec_le n m)
  where
    go : Dec (n ≤ m) → Apart n w m v
    go (yes l) = inl (a (omega (arith, h)))
    go (no k) = inr (b (omega arith))

fits-apart : (n w m v : ℕ) → Fit n w → Fit m v → n ≢ m → Apart n w m v
fits-apart n w m v (inl f) (inl g) h = ordered n w m v h (λ l. omega (arith, f, g)) (λ l. omega (arith, f, g))
fits-apart n w m v (inl f) (inr g) h = inl (omega (arith, f, g))
fits-apart n w m v (inr f) (inl g) h = inr (omega (arith, f, g))
fits-apart n w m v (inr f) (inr g) h = ordered n w m v h (λ l. omega (arith, f, g)) (λ l. omega (arith, f, g))

-- what holds of a good record: its element is a cell's, and it has no more bytes than that
pub record Placed (x : Step) : Type 0 where
  pub cell : Present (cell_of x)
  pub place : at x ≡ place_of (cell_of x)
  fit : Fit (at x) (width x)
  bytes : length x.bytes ≤ width x

carried-element : (k : Kind) (s : Space) → carried k s ≤ (row s).element
unfolding carried
carried-element read s = omega arith
carried-element write s = omega arith
carried-element infoRead s = omega arith

pub placed : (x : Step) → bad_element x ≡ false → is_info x.kind ≡ false
    → length x.bytes ≡ carried x.kind x.space → Placed x
unfolding at misaligned past_end place_of cell_of
placed x h i w =
    let g = good-element x h in
    let e = row_plain x.kind x.space i in
    let aligned : x.address % (row x.space).element ≡ 0 = eqb-true _ _ (not-false _ g.1) in
    let inside : x.address + width x ≤ (row x.space).bytes =
    rw e at (ltb-false (row_by x.kind x.space).bytes (x.address + (row_by x.kind x.space).element) g.2) in
    record {
      cell = record { space = g.0; inside = omega (arith, element_nonzero x.space); aligned = aligned };
      place = rw e refl;
      fit = rw e (fit_in x.space x.address g.0 aligned inside);
      bytes = rw w (carried-element x.kind x.space);
    }

pub data AllPlaced : List Step → Type 0 where
  none : AllPlaced []
  more : {x : Step} {xs : List Step} → Placed x → AllPlaced xs → AllPlaced (x ∷ xs)

pub all_placed : {xs : List Step} → Good xs → AllPlaced xs
all_placed Good.none = AllPlaced.none
all_placed (Good.more b i w g) = AllPlaced.more (placed _ b i w) (all_placed g)

-- two records that name different cells leave each other alone
other-cells : (x y : Step) → Placed x → Placed y → same_cell (cell_of x) (cell_of y) ≡ false → Clear x y
other-cells x y p q e =
    let n = eqb-false _ _ (sym (same_place (cell_of x) (cell_of y) p.cell q.cell) ∙ e) in
    let other : at x ≢ at y = λ f. n (sym p.place ∙ f ∙ q.place) in
    Clear.apart (fits-apart (at x) _ (at y) _ p.fit q.fit other) p.bytes q.bytes

-- what no clash with x ∷ xs says of x, and of xs
no_clash : (w s v m n : Bool) → (((w && s) || m) || (v && (s || n))) ≡ false
    → ((s ≡ false) ⊎ ((w ≡ false) × (v ≡ false))) × ((m || (v && n)) ≡ false)
no_clash true true v m n h = let z : ◌≡◌ {A = ℕ} 0 1 = cc in absurd (omega arith)
no_clash true false v m n h = (inl refl, h)
no_clash false true true true n h = let z : ◌≡◌ {A = ℕ} 0 1 = cc in absurd (omega arith)
no_clash false true true false n h = let z : ◌≡◌ {A = ℕ} 0 1 = cc in absurd (omega arith)
no_clash false true false m n h = (inr (refl, refl), h)
no_clash false false v m n h = (inl refl, h)

clear_of : {xs : List Step} (y : Step) → AllPlaced xs → Placed y → clashes xs y ≡ false → ClearOf xs y
unfolding clashes names writes
clear_of y AllPlaced.none q h = ClearOf.none
clear_of y (AllPlaced.more {x = x} p ps) q h =
    let r = no_clash (is_write x.kind) (same_cell (cell_of x) (cell_of y)) (is_write y.kind) _ _ h in
    ClearOf.more (go r.0) (clear_of y ps q r.1)
  where
    go : (same_cell (cell_of x) (cell_of y) ≡ false) ⊎ ((is_write x.kind ≡ false) × (is_write y.kind ≡ false)) → Clear x y
    go (inl e) = other-cells x y p q e
    go (inr (e, f)) = Clear.reads e f

-- Records of two lists without a clash leave each other alone.
pub all-clear : {xs ys : List Step} (index : ℕ) → AllPlaced xs → AllPlaced ys
    → (first_clash xs index ys).number ≡ 0 → AllClear xs ys
unfolding first_clash
all-clear index ps AllPlaced.none e = AllClear.none
all-clear {xs = xs} index ps (AllPlaced.more {x = y} {xs = ys} q qs) e =
    go (clashes xs y) refl e (all-clear (index + 1) ps qs)
  where
    go : (b : Bool) → clashes xs y ≡ b
        → (cond b (clash index) (first_clash xs (index + 1) ys)).number ≡ 0
        → ((first_clash xs (index + 1) ys).number ≡ 0 → AllClear xs ys) → AllClear xs (y ∷ ys)
    go true c e rest = absurd (omega arith)
    go false c e rest = AllClear.more (clear_of y ps q c) (rest e)
