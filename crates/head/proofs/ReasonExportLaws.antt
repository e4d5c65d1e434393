-- What head_why returns and leaves, as the code puts it together.
use Prim.Native.Nat.{ℕ}
use mathlib.Core.Path.{◌≡◌, refl, ap}
use mathlib.Core.Bool.{Bool, true, false}
use mathlib.Core.List.{List}
use native.Mathlib.Omega.{arith}
use lib.ListN.{length, take}
use lib.Dec.{eqb}
use borrow.Author.Tests.{eq-eqb, ne_eqb}
use Rattle.lbp16.specs.declared.pointer.Pointers.{Pointers}
use Rattle.std.specs.Prelude.{Option, None, Some}
use Rattle.std.specs.Option.{unwrap_or}
use Rattle.reason.specs.Reason.{unnamed, explained, reason_listed}
use Rattle.reason.specs.declared.Reason.{Reason}
use Rattle.head.specs.Exports.{bytes_of_fields}
use Rattle.lbp16.specs.Pointer.{pointers_of}
use Rattle.packet.specs.Judge.{Carried, accepted}
use Rattle.card.specs.Run.{checked_lent}
use Rattle.reason.proofs.ReasonLaws.{front-accepted}
use Rattle.head.specs.ReasonExports.{why_left, reason_for, export_why, WhyFront}

-- Where there is no reason all is 0.
pub listed_or : (o : Option Reason) → unwrap_or o (unnamed 0 0) ≡ reason_listed o
unfolding reason_listed
listed_or None = refl
listed_or (Some r) = refl

module _ (packet store pointers : List ℕ) where
  pub why-not_eight : (length pointers ≡ 8 → ⊥) → (r : Reason) → r ≡ unnamed 1 0 → r ≡ reason_for packet store pointers
  unfolding reason_for
  why-not_eight h r e = rw (ne_eqb _ _ h) e

  pub why-eight : length pointers ≡ 8 → (p : Pointers) (r : Reason) → p ≡ pointers_of pointers → r ≡ explained packet store p
      → r ≡ reason_for packet store pointers
  unfolding reason_for
  why-eight n p r q e = rw (eq-eqb _ _ n, ← q) e

  pub why-front : (r : Reason) → r ≡ reason_for packet store pointers → WhyFront packet store pointers r.number r.place
  unfolding reason_for checked_lent unnamed
  why-front r e l m = by_count_lem (eqb (length pointers) 8) refl where
    by_count_lem : (b : Bool) → eqb (length pointers) 8 ≡ b
        → (end : Carried) × (checked_lent (take r.place packet) store pointers ≡ accepted end)
    by_count_lem true t = rw t (front-accepted packet store (pointers_of pointers) r (rw t at e) l)
    by_count_lem false t = let z : r.number ≡ 1 = ap (λ x. x.number) (rw t at e) in absurd (omega arith)

  module _ (fields : List ℕ) where
    pub why-other_room : (length fields ≡ 7 → ⊥) → why_left 13 0 0 fields ≡ export_why packet store pointers fields
    unfolding export_why
    why-other_room h = rw (ne_eqb _ _ h) refl

    pub why-left : length fields ≡ 7 → (r : Reason) (left : List ℕ) → r ≡ reason_for packet store pointers
        → left ≡ bytes_of_fields r.fields
        → why_left r.number r.place r.index left ≡ export_why packet store pointers fields
    unfolding export_why
    why-left n r left e f = rw (eq-eqb _ _ n, f, e) refl
