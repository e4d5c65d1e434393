-- The unlock over a command's elements.
use Prim.Native.Nat.{ℕ, zero, suc, ◌+◌, ◌-◌, ◌*◌, ◌<◌}
use mathlib.Core.Path.{◌≡◌, refl, sym, ◌∙◌, ap}
use mathlib.Core.List.{List}
use mathlib.Core.Bool.{Bool, true, false, ◌&&◌, cond}
use native.Mathlib.Omega.{arith}
use lib.ListN.{length, take, drop}
use lib.Dec.{eqb}
use lib.Seq.{drop-drop}
use borrow.Author.Tests.{eqb-true, ne_eqb}
use Rattle.lbp16.specs.Space.{Space, status, row, space_of}
use Rattle.lbp16.specs.declared.word.Fields.{Fields}
use Rattle.packet.specs.Step.{Kind, read, write, infoRead, is_info, carried, is_write, is_status, names_unlock, unlocked_after, unlocked}
use Rattle.packet.specs.Inside.{status_write, unlocked_by}
use Rattle.packet.specs.Bytes.{number}
use Rattle.packet.specs.Command.{payload, elements, kind_of, header_bytes, address_used, stride, bytes_of_area, handed, steps_at}
use Rattle.lbp16.specs.Pointer.{pointer_of}
use Rattle.lbp16.specs.declared.pointer.Pointers.{Pointers}
use Rattle.packet.proofs.SliceLaws.{tail-whole}
use Rattle.packet.proofs.ElementLaws.{write-kind}
use Rattle.lbp16.proofs.BoolLaws.{and_true}
use Rattle.lbp16.proofs.CaseLaws.{space-cases}

-- one element of a write to space 6
pub unlock-step : (o : Bool) (n a d : ℕ) (bs : List ℕ)
    → unlocked o (elements write status (suc n) a d bs)
    ≡ unlocked (unlocked_after o (status_write a (take 2 bs))) (elements write status n (a + d) d (drop 2 bs))
unfolding unlocked elements payload carried row
unlock-step o n a d bs = refl

-- the same, i elements after the start
pub unlock-again : (o : Bool) (n i a d : ℕ) (bs : List ℕ) → i < n
    → unlocked o (elements write status (n - i) a d (drop (i * 2) bs))
    ≡ unlocked (unlocked_after o (status_write a (take 2 (drop (i * 2) bs))))
    (elements write status (n - (i + 1)) (a + d) d (drop ((i + 1) * 2) bs))
unlock-again o n i a d bs h =
    let e : n - i ≡ suc (n - (i + 1)) = omega arith in
    let f : i * 2 + 2 ≡ (i + 1) * 2 = omega arith in
    rw (e, unlock-step, drop-drop, f) refl

-- No other command turns it.
pub unlock-kept : (o : Bool) (k : Kind) (s : Space) (n a d : ℕ) (bs : List ℕ) → (is_write k && is_status s) ≡ false
    → unlocked o (elements k s n a d bs) ≡ o
unfolding unlocked elements unlocked_after names_unlock
unlock-kept o k s zero a d bs e = refl
unlock-kept o k s (suc n) a d bs e =
    ap (λ (t : Bool). unlocked t (elements k s n (a + d) d (drop (carried k s) bs))) (go (is_write k) (is_status s) (eqb a 0x1A) e)
    ∙ unlock-kept o k s n (a + d) d _ e
  where
    go : (w t u : Bool) → (w && t) ≡ false
        → cond (w && (u && t)) (eqb (number (payload k s bs)) 0x5A02) o ≡ o
    go false t u e = refl
    go true false true e = refl
    go true false false e = refl
    go true true u e = let z : ◌≡◌ {A = ℕ} 0 1 = cc in absurd (omega arith)

-- space 6 by its number
pub status-number : (n : ℕ) → is_status (space_of n) ≡ eqb n 6
unfolding is_status
status-number n = space-cases n (λ m s. is_status s ≡ eqb m 6) refl refl refl refl (λ a b c d. sym (ne_eqb n 6 c))

pub not_status : (f : Fields) → (f.write && eqb f.space 6) ≡ false
    → (is_write (kind_of f) && is_status (space_of f.space)) ≡ false
not_status f e = rw (write-kind f, status-number f.space) e

pub status-write : (f : Fields) → (f.write && eqb f.space 6) ≡ true → (kind_of f ≡ write) × (space_of f.space ≡ status)
unfolding kind_of space_of
status-write f e =
    let h = and_true f.write (eqb f.space 6) e in
    (rw h.0 refl, rw (eqb-true f.space 6 h.1) refl)

-- the unlock after a write to space 6, from the part of the packet past the header
pub unlock-next : (o : Bool) (f : Fields) (used : ℕ) (rest : List ℕ) (h d : ℕ) (r : Bool)
    → (f.write && eqb f.space 6) ≡ true → h ≡ header_bytes f → d ≡ stride f
    → r ≡ unlocked o (elements write status f.count used d (take (length rest - h) (drop h rest)))
    → r ≡ unlocked_by o f used rest
unlock-next o f used rest h d r t e₁ e₂ e₃ =
    let s = status-write f t in rw (s.0, s.1, ← e₁, ← e₂) (e₃ ∙ rw tail-whole refl)

-- An info read turns nothing, so that it may be taken to be handed the bytes after its header too.
pub unlock-handed : (o : Bool) (p : Pointers) (f : Fields) (rest : List ℕ)
    → unlocked o (steps_at p f rest) ≡ unlocked_by o f (address_used p f rest) rest
unfolding steps_at handed is_info is_write
unlock-handed o p f rest = go (kind_of f)
  where
    go : (k : Kind)
        → unlocked o
        (elements k (space_of f.space) f.count (address_used p f rest) (stride f)
        (cond (is_info k) (bytes_of_area (space_of f.space) (pointer_of p false (space_of f.space))) (drop (header_bytes f) rest)))
        ≡ unlocked o
        (elements k (space_of f.space) f.count (address_used p f rest) (stride f) (drop (header_bytes f) rest))
    go read = refl
    go write = refl
    go infoRead = unlock-kept o infoRead _ _ _ _ _ refl ∙ sym (unlock-kept o infoRead _ _ _ _ _ refl)
