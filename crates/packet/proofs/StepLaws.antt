-- Laws of steps that follow other steps.
use Prim.Native.Nat.{ℕ, ◌+◌, ◌≤◌}
use mathlib.Core.Path.{◌≡◌, refl}
use mathlib.Core.List.{List, [], ◌∷◌, ◌++◌}
use mathlib.Core.Bool.{Bool, true, false, ◌||◌}
use native.Mathlib.Omega.{arith}
use Rattle.lbp16.proofs.SpaceLaws.{element_le, area_element_le}
use Rattle.lbp16.specs.Space.{Space, row, area_row}
use Rattle.packet.specs.Step.{Kind, read, write, infoRead, Step, is_info, is_write, row_by, carried, answered}
use Rattle.packet.specs.Step.{reply_bytes, unlocked_after, unlocked}
use Rattle.packet.specs.Rules.{any_step}
use Rattle.packet.specs.Command.{pick_kind}

pub unlocked-append : (open? : Bool) (ss ts : List Step) → unlocked open? (ss ++ ts) ≡ unlocked (unlocked open? ss) ts
unfolding unlocked
unlocked-append open? [] ts = refl
unlocked-append open? (s ∷ ss) ts = unlocked-append (unlocked_after open? s) ss ts

pub reply-append : (ss ts : List Step) → reply_bytes (ss ++ ts) ≡ reply_bytes ss + reply_bytes ts
unfolding reply_bytes
reply-append [] ts = omega arith
reply-append (s ∷ ss) ts = rw (reply-append ss ts) (omega arith)

pub any_append : (f : Step → Bool) (ss ts : List Step) → any_step f ss ≡ false → any_step f ts ≡ false → any_step f (ss ++ ts) ≡ false
unfolding any_step
any_append f [] ts h k = k
any_append f (s ∷ ss) ts h k = go (f s) (any_append f ss ts) h
  where
    go : (b : Bool) → (any_step f ss ≡ false → any_step f ts ≡ false → any_step f (ss ++ ts) ≡ false) → (b || any_step f ss) ≡ false
        → (b || any_step f (ss ++ ts)) ≡ false
    go true rest e = e
    go false rest e = rest e k

pub any_one : (f : Step → Bool) (s : Step) → f s ≡ false → any_step f (s ∷ []) ≡ false
unfolding any_step
any_one f s e = rw e

-- an element has at most 4 bytes, in its command and in the reply
pub carried_le : (k : Kind) (s : Space) → carried k s ≤ 4
unfolding carried
carried_le read s = omega arith
carried_le write s = element_le s
carried_le infoRead s = omega arith

pub answered_le : (k : Kind) (s : Space) → answered k s ≤ 4
unfolding answered row_by
answered_le read s = element_le s
answered_le write s = omega arith
answered_le infoRead s = area_element_le _ s

-- a plain step is known by whether it writes
pub pick-plain : (write? : Bool) → is_info (pick_kind write?) ≡ false
unfolding is_info
pick-plain true = refl
pick-plain false = refl

pub pick-again : (k : Kind) → is_info k ≡ false → pick_kind (is_write k) ≡ k
unfolding is_info is_write
pick-again read e = refl
pick-again write e = refl
pick-again infoRead e = let z : ◌≡◌ {A = ℕ} 0 1 = cc in absurd (omega arith)

-- the line of a plain step is its space's
pub row_plain : (k : Kind) (s : Space) → is_info k ≡ false → row_by k s ≡ row s
unfolding row_by area_row
row_plain k s e = rw e

-- only a write's elements stand in the packet, and only the others' in the reply
pub carried_row : (k : Kind) (s : Space) → is_write k ≡ true → carried k s ≡ (row_by k s).element
unfolding carried is_write row_by is_info area_row
carried_row read s e = let z : ◌≡◌ {A = ℕ} 0 1 = cc in absurd (omega arith)
carried_row write s e = refl
carried_row infoRead s e = let z : ◌≡◌ {A = ℕ} 0 1 = cc in absurd (omega arith)

pub carried_none : (k : Kind) (s : Space) → is_write k ≡ false → carried k s ≡ 0
unfolding carried is_write
carried_none read s e = refl
carried_none write s e = let z : ◌≡◌ {A = ℕ} 0 1 = cc in absurd (omega arith)
carried_none infoRead s e = refl

pub answered-row : (k : Kind) (s : Space) → is_write k ≡ false → answered k s ≡ (row_by k s).element
unfolding answered is_write row_by is_info area_row
answered-row read s e = refl
answered-row write s e = let z : ◌≡◌ {A = ℕ} 0 1 = cc in absurd (omega arith)
answered-row infoRead s e = refl
