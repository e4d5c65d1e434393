-- What head_why returns and leaves.
use Rattle.std.specs.Prelude.{ℕ, ◌≤◌, ◌≡◌, List, cond, length, take, eqb}
use Rattle.packet.specs.Judge.{Carried, accepted}
use Rattle.card.specs.Run.{checked_lent}
use Rattle.reason.specs.Reason.{unnamed, explained}
use Rattle.reason.specs.declared.Reason.{Reason}
use Rattle.head.specs.Exports.{bytes_of_fields}
use Rattle.lbp16.specs.Pointer.{pointers_of}

pub record WhyExport : Type 0 where
  pub number : ℕ
  pub place : ℕ
  pub index : ℕ
  pub fields : List ℕ

abbrev pub why_left : ℕ → ℕ → ℕ → List ℕ → WhyExport
why_left number place index fields = record { number = number; place = place; index = index; fields = fields }

-- Refused with 1 where there are not eight pointers.
unfoldable pub reason_for : List ℕ → List ℕ → List ℕ → Reason
reason_for packet store pointers =
    cond (eqb (length pointers) 8) (explained packet store (pointers_of pointers)) (unnamed 1 0)

-- Refused with 13 where there is not room for exactly seven bytes of fields.
unfoldable pub export_why : List ℕ → List ℕ → List ℕ → List ℕ → WhyExport
export_why packet store pointers fields =
    let r = reason_for packet store pointers in
    cond (eqb (length fields) 7) (why_left r.number r.place r.index (bytes_of_fields r.fields)) (why_left 13 0 0 fields)

-- Where it returns 3 to 12, the bytes before the place alone are an accepted packet, from the same store and pointers.
abbrev pub WhyFront : List ℕ → List ℕ → List ℕ → ℕ → ℕ → Type 0
WhyFront packet store pointers number place =
    3 ≤ number → number ≤ 12 → (end : Carried) × (checked_lent (take place packet) store pointers ≡ accepted end)
