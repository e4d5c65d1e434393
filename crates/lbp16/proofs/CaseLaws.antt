-- A match on a space, and on its number: what is said of the space.
use Prim.Native.Nat.{ℕ}
use mathlib.Core.Path.{◌≡◌, refl}
use mathlib.Core.Bool.{Bool, true, false, cond}
use lib.Dec.{eqb}
use borrow.Author.Tests.{eqb-true, eqb-false, ne_eqb}
use Rattle.lbp16.specs.Space.{Space, registers, eeprom, status, information, absent, space_of, space_named}
use Rattle.lbp16.specs.declared.space.Space.{Space as SpaceName}

module _ {A : Type 0} (f : Space → A) (n : ℕ) where
  pub at-registers : n ≡ 0 → f registers ≡ f (space_of n)
  unfolding space_of
  at-registers e = rw e refl

  pub at_eeprom : n ≡ 2 → f eeprom ≡ f (space_of n)
  unfolding space_of
  at_eeprom e = rw e refl

  pub at-status : n ≡ 6 → f status ≡ f (space_of n)
  unfolding space_of
  at-status e = rw e refl

  pub at_information : n ≡ 7 → f information ≡ f (space_of n)
  unfolding space_of
  at_information e = rw e refl

  pub at_absent : (n ≡ 0 → ⊥) → (n ≡ 2 → ⊥) → (n ≡ 6 → ⊥) → (n ≡ 7 → ⊥) → f absent ≡ f (space_of n)
  unfolding space_of
  at_absent a b c d = rw (ne_eqb _ _ a, ne_eqb _ _ b, ne_eqb _ _ c, ne_eqb _ _ d) refl

-- the space of a number, once its name is known
pub space_is : {s t : SpaceName} (n : ℕ) (e : space_named s ≡ space_of n) → s ≡ t → space_named t ≡ space_of n
space_is n e h = rw h at e

-- what holds of the four spaces, and of a number that names none, holds of every number's space
pub space-cases : (n : ℕ) (P : ℕ → Space → Type 0) → P 0 registers → P 2 eeprom → P 6 status → P 7 information
    → ((n ≡ 0 → ⊥) → (n ≡ 2 → ⊥) → (n ≡ 6 → ⊥) → (n ≡ 7 → ⊥) → P n absent) → P n (space_of n)
unfolding space_of
space-cases n P a b c d e = go (eqb n 0) (eqb n 2) (eqb n 6) (eqb n 7) refl refl refl refl
  where
    go : (t u v w : Bool) → eqb n 0 ≡ t → eqb n 2 ≡ u → eqb n 6 ≡ v → eqb n 7 ≡ w
        → P n (cond t registers (cond u eeprom (cond v status (cond w information absent))))
    go true u v w p q r s = rw (eqb-true n 0 p) a
    go false true v w p q r s = rw (eqb-true n 2 q) b
    go false false true w p q r s = rw (eqb-true n 6 r) c
    go false false false true p q r s = rw (eqb-true n 7 s) d
    go false false false false p q r s = e (eqb-false n 0 p) (eqb-false n 2 q) (eqb-false n 6 r) (eqb-false n 7 s)
