use Rattle.head.proofs.IndependentExportLaws.{independent-left}
use Rattle.head.proofs.independent_exports.head_independent.Goals as goal

-- a lemma's facts, as the clauses have names
named2 : {A B R : Type 0} → (A → B → R) → A × B → R
named2 f h = f h.0 h.1

pub returns : goal.returns
returns c = let answer = c.independent.ensures in
    named2 (λ h0 h1. record { answer = h0; either = h1 }) (independent-left _ _ _ answer.answer answer.either _ _ _ c.numbers_of-given.ensures)
