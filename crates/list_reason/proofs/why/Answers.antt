use native.Mathlib.Omega.{arith}
use Rattle.lbp16.proofs.RuleLaws.{rule_number_range}
use Rattle.list_reason.proofs.WhyLaws.{none-stops, walk-good, walk-bad, walk-within, told}
use Rattle.list_reason.proofs.why.Goals as goal

-- a lemma's facts, as the clauses have names
named3 : {A B C R : Type 0} → (A → B → C → R) → A × (B × C) → R
named3 f h = f h.0 h.1.0 h.1.1

pub returns-in_default : goal.returns-in_default
returns-in_default c = let e = walk-good _ _ c.walk.ensures (none-stops _ _ c.in_default.not-Err) in
    named3 (λ h0 h1 h2. record { why = h0; caused = h1; front = h2 }) ((e, told _ _ e))

pub slice_bounds-cause_of-count : goal.slice_bounds-cause_of-count
slice_bounds-cause_of-count c = walk-within _ _ c.in-Err.ensures

pub slice_bounds-cause_of-start : goal.slice_bounds-cause_of-start
slice_bounds-cause_of-start c = walk-within _ _ c.in-Err.ensures

pub returns : goal.returns
returns c =
    let some = rule_number_range c.in-Err.stopped.rule in
    let e = walk-bad _ _ c.in-Err.ensures (λ z. omega arith) _ c.cause_of.ensures in
    rw c.at.ensures (named3 (λ h0 h1 h2. record { why = h0; caused = h1; front = h2 }) ((e, told _ _ e)))
