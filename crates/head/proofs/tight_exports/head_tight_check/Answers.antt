use Rattle.tight.specs.Demand3.{TightDemand3}
use Rattle.head.proofs.TightExportLaws.{tight_given_lem, tight_promise}
use Rattle.head.proofs.tight_exports.head_tight_check.Goals as goal

-- a lemma's facts, as the clauses have names
named2 : {A B R : Type 0} → (A → B → R) → A × B → R
named2 f h = f h.0 h.1

pub returns : goal.returns
returns c = let s = c.check.ensures in
    let given = c.numbers_of-given.ensures in
    named2 (λ h0 h1. record { answer = h0; demand3 = h1 }) ((
      tight_given_lem _ _ _ s.checked _ _ given,
      tight_promise _ _ _ s.checked _ _ given (TightDemand3 _ _) s.demand3,
    ))
