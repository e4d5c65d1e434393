use native.Mathlib.Omega.{arith}
use Rattle.head.proofs.ReasonExportLaws.{why-front, why-other_room, why-left}
use Rattle.head.proofs.reason_exports.head_why.Goals as goal

-- a lemma's facts, as the clauses have names
named2 : {A B R : Type 0} → (A → B → R) → A × B → R
named2 f h = f h.0 h.1

pub returns-then-fields-ne7 : goal.returns-then-fields-ne7
returns-then-fields-ne7 c = record {
  why = why-other_room _ _ _ _ c.if-fields-ne7.true;
  front = λ l m. absurd (omega arith);
}

pub returns : goal.returns
returns c = named2 (λ h0 h1. record { why = h0; front = h1 }) ((
  why-left _ _ _ _ c.if-fields-ne7.false c.reason_for-reason.result _ c.reason_for-reason.ensures
      c.put_fields.ensures,
  why-front _ _ _ c.reason_for-reason.result c.reason_for-reason.ensures,
))
