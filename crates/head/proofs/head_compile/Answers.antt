use Rattle.cue.specs.Demand3.{Demand3}
use Rattle.head.proofs.ExportLaws.{compile_left_lem, compile_accepted}
use Rattle.head.proofs.ListingLaws.{compiled_numbers}
use Rattle.head.proofs.head_compile.Goals as goal

-- a lemma's facts, as the clauses have names
named2 : {A B R : Type 0} → (A → B → R) → A × B → R
named2 f h = f h.0 h.1

pub returns : goal.returns
returns c = let s = c.compile.ensures in
    let given = compiled_numbers _ c.numbers_of-given.ensures in
    named2 (λ h0 h1. record { compiled = h0; demand3 = h1 }) ((
      compile_left_lem _ _ _ _ _ s.compiled given,
      compile_accepted _ _ _ _ _ s.compiled (Demand3 _ _) s.demand3 given,
    ))
