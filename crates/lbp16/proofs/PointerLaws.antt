-- Laws of the pointers.
use Prim.Native.Nat.{ℕ, ◌+◌, ◌≤◌, ◌<◌}
use mathlib.Core.Path.{◌≡◌, refl, sym, ap, ◌∙◌}
use mathlib.Core.Logic.{◌≢◌}
use mathlib.Core.Bool.{Bool, true, false, cond}
use mathlib.Core.List.{List, [], ◌∷◌}
use lib.Dec.{ltb}
use lib.ListN.{length, get_or, set}
use native.Mathlib.Omega.{arith}
use borrow.Author.Tests.{ltb-false, le-ltb}
use Rattle.lbp16.proofs.BoolLaws.{or_false}
use Rattle.lbp16.specs.Space.{Space, registers, eeprom, status, information, absent, area_row, is_absent}
use Rattle.lbp16.specs.Pointer.{advanced, of_space, with_space, pointer_of, with_pointer, over, some_over, above_size}
use Rattle.lbp16.specs.Pointer.{spaces_at, pointers_of, lent_spaces, lent_pointers, space_slot, slot_of}
use Rattle.lbp16.specs.declared.pointer.SpacePointers.{SpacePointers}
use Rattle.lbp16.specs.declared.pointer.Pointers.{Pointers}

-- An address of a space plus the bytes of a command's elements is exact and never wraps.
pub advanced_exact : (at n : ℕ) → at ≤ 65536 → n ≤ 65536 → advanced at n ≡ at + n
unfolding advanced
advanced_exact at n h k = omega arith

pub never_smaller : (at n : ℕ) → at < 4294967296 → at ≤ advanced at n
unfolding advanced
never_smaller at n h = omega arith

pub past_the_end : advanced 0xFFFC 4 ≡ 0x10000
unfolding advanced
past_the_end = refl

never : {A : Type 0} {s : Space} → s ≢ s → A
never h = absurd (h refl)

-- Setting a space's pointer leaves the others.
with_space-other : (p : SpacePointers) (t s : Space) (n : ℕ) → t ≢ s → of_space (with_space p t n) s ≡ of_space p s
unfolding of_space with_space
with_space-other p t registers n =
    elim t as (λ k. k ≢ registers → of_space (with_space p k n) registers ≡ of_space p registers) [
      | registers ↦ never
      | eeprom ↦ λ h. refl
      | status ↦
          λ h. refl
      | information ↦ λ h. refl
      | absent ↦ λ h. refl
    ]
with_space-other p t eeprom n =
    elim t as (λ k. k ≢ eeprom → of_space (with_space p k n) eeprom ≡ of_space p eeprom) [
      | registers ↦ λ h. refl
      | eeprom ↦ never
      | status ↦
          λ h. refl
      | information ↦ λ h. refl
      | absent ↦ λ h. refl
    ]
with_space-other p t status n =
    elim t as (λ k. k ≢ status → of_space (with_space p k n) status ≡ of_space p status) [
      | registers ↦ λ h. refl
      | eeprom ↦ λ h. refl
      | status ↦
          never
      | information ↦ λ h. refl
      | absent ↦ λ h. refl
    ]
with_space-other p t information n =
    elim t as (λ k. k ≢ information → of_space (with_space p k n) information ≡ of_space p information) [
      | registers ↦ λ h. refl
      | eeprom ↦
          λ h. refl
      | status ↦ λ h. refl
      | information ↦ never
      | absent ↦ λ h. refl
    ]
with_space-other p t absent n = λ h. refl

-- Setting one pointer leaves those of other spaces, and every pointer of the other kind: `i` and `j` say whether it is that
-- of an info area.
pub with_pointer-other : (p : Pointers) (i j : Bool) (t s : Space) (n : ℕ) → (i ≡ j → t ≢ s)
    → pointer_of (with_pointer p i t n) j s ≡ pointer_of p j s
unfolding pointer_of with_pointer
with_pointer-other p false false t s n h = with_space-other p.plain t s n (h refl)
with_pointer-other p false true t s n h = refl
with_pointer-other p true false t s n h = refl
with_pointer-other p true true t s n h = with_space-other p.info t s n (h refl)

-- A pointer set at most to its space's or area's size leaves none above it.
with_space-kept : (p : SpacePointers) (i : Bool) (s : Space) (n : ℕ) → n ≤ (area_row i s).bytes → some_over p i ≡ false
    → some_over (with_space p s n) i ≡ false
unfolding some_over over with_space of_space
with_space-kept p i s n h e =
    let (abc, d) = or_false _ _ e in
    let (ab, c) = or_false _ _ abc in
    let (a, b) = or_false _ _ ab in
    set-one s h a b c d
  where
    set-one : (s : Space) → n ≤ (area_row i s).bytes → over p i registers ≡ false → over p i eeprom ≡ false
        → over p i status ≡ false → over p i information ≡ false → some_over (with_space p s n) i ≡ false
    set-one registers h a b c d = rw (le-ltb _ _ h, b, c, d)
    set-one eeprom h a b c d = rw (a, le-ltb _ _ h, c, d)
    set-one status h a b c d = rw (a, b, le-ltb _ _ h, d)
    set-one information h a b c d = rw (a, b, c, le-ltb _ _ h)
    set-one absent h a b c d = rw (a, b, c, d)

pub with_pointer-kept : (p : Pointers) (i : Bool) (s : Space) (n : ℕ) → n ≤ (area_row i s).bytes → above_size p ≡ false
    → above_size (with_pointer p i s n) ≡ false
unfolding above_size with_pointer
with_pointer-kept p false s n h e =
    let (a, b) = or_false (some_over p.plain false) (some_over p.info true) e in rw (with_space-kept p.plain false s n h a, b)
with_pointer-kept p true s n h e =
    let (a, b) = or_false (some_over p.plain false) (some_over p.info true) e in rw (a, with_space-kept p.info true s n h b)

-- Where none is above, each stands within its space or area, or at its end.
space_le : (p : SpacePointers) (i : Bool) → some_over p i ≡ false → (s : Space) → of_space p s ≤ (area_row i s).bytes
unfolding some_over over of_space
space_le p i e s =
    let (abc, d) = or_false _ _ e in
    let (ab, c) = or_false _ _ abc in
    let (a, b) = or_false _ _ ab in
    go s a b c d
  where
    go : (s : Space) → over p i registers ≡ false → over p i eeprom ≡ false → over p i status ≡ false
        → over p i information ≡ false → of_space p s ≤ (area_row i s).bytes
    go registers a b c d = ltb-false _ _ a
    go eeprom a b c d = ltb-false _ _ b
    go status a b c d = ltb-false _ _ c
    go information a b c d = ltb-false _ _ d
    go absent a b c d = omega arith

pub pointer_le : (p : Pointers) → above_size p ≡ false → (i : Bool) (s : Space) → pointer_of p i s ≤ (area_row i s).bytes
unfolding above_size pointer_of
pointer_le p e false s = space_le p.plain false (or_false _ (some_over p.info true) e).0 s
pointer_le p e true s = space_le p.info true (or_false (some_over p.plain false) _ e).1 s

-- Eight numbers are the list of the pointers that they are, and pointers those of their list.
pub lent_back : (ps : List ℕ) → length ps ≡ 8 → lent_pointers (pointers_of ps) ≡ ps
unfolding lent_pointers lent_spaces pointers_of spaces_at
lent_back (a ∷ b ∷ c ∷ d ∷ e ∷ f ∷ g ∷ h ∷ []) l = refl
lent_back [] l = absurd (omega arith)
lent_back (a ∷ []) l = absurd (omega arith)
lent_back (a ∷ b ∷ []) l = absurd (omega arith)
lent_back (a ∷ b ∷ c ∷ []) l = absurd (omega arith)
lent_back (a ∷ b ∷ c ∷ d ∷ []) l = absurd (omega arith)
lent_back (a ∷ b ∷ c ∷ d ∷ e ∷ []) l = absurd (omega arith)
lent_back (a ∷ b ∷ c ∷ d ∷ e ∷ f ∷ []) l = absurd (omega arith)
lent_back (a ∷ b ∷ c ∷ d ∷ e ∷ f ∷ g ∷ []) l = absurd (omega arith)
lent_back (a ∷ b ∷ c ∷ d ∷ e ∷ f ∷ g ∷ h ∷ i ∷ ps) l = absurd (omega arith)

pub back-lent : (p : Pointers) → pointers_of (lent_pointers p) ≡ p
unfolding lent_pointers lent_spaces pointers_of spaces_at
back-lent p = refl

pub lent_length : (p : Pointers) → length (lent_pointers p) ≡ 8
unfolding lent_pointers lent_spaces
lent_length p = refl

-- What stands at a pointer's slot is that pointer;
pub slot_read : (ps : List ℕ) (i : Bool) (s : Space) → cond (ltb (slot_of i s) 8) (get_or ps (slot_of i s) 0) 0 ≡ pointer_of (pointers_of ps) i s
unfolding slot_of space_slot pointer_of of_space pointers_of spaces_at
slot_read ps false registers = refl
slot_read ps false eeprom = refl
slot_read ps false status = refl
slot_read ps false information = refl
slot_read ps false absent = refl
slot_read ps true registers = refl
slot_read ps true eeprom = refl
slot_read ps true status = refl
slot_read ps true information = refl
slot_read ps true absent = refl

-- those that the card has stand among the eight,
pub slot-below : (i : Bool) (s : Space) → is_absent s ≡ false → slot_of i s < 8
unfolding slot_of space_slot is_absent
slot-below false registers e = omega arith
slot-below false eeprom e = omega arith
slot-below false status e = omega arith
slot-below false information e = omega arith
slot-below true registers e = omega arith
slot-below true eeprom e = omega arith
slot-below true status e = omega arith
slot-below true information e = omega arith
slot-below i absent e = let z : ◌≡◌ {A = ℕ} 0 1 = cc in absurd (omega arith)

-- and a number put there sets that pointer alone.
pub slot-written : (ps : List ℕ) → length ps ≡ 8 → (i : Bool) (s : Space) (n : ℕ) → is_absent s ≡ false
    → pointers_of (set ps (slot_of i s) n) ≡ with_pointer (pointers_of ps) i s n
unfolding with_pointer pointers_of with_space spaces_at lent_pointers lent_spaces slot_of space_slot is_absent
slot-written ps l i s n e =
    ap (λ (qs : List ℕ). pointers_of (set qs (slot_of i s) n)) (sym (lent_back ps l)) ∙ go (pointers_of ps) i s e
  where
    go : (p : Pointers) (i : Bool) (s : Space) → is_absent s ≡ false
        → pointers_of (set (lent_pointers p) (slot_of i s) n) ≡ with_pointer p i s n
    go p false registers e = refl
    go p false eeprom e = refl
    go p false status e = refl
    go p false information e = refl
    go p true registers e = refl
    go p true eeprom e = refl
    go p true status e = refl
    go p true information e = refl
    go p i absent e = let z : ◌≡◌ {A = ℕ} 0 1 = cc in absurd (omega arith)
