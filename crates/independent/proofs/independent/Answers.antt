use mathlib.Core.Path.{refl}
use Rattle.cue.specs.Compile.{compile_listed}
use Rattle.independent.specs.Independent.{independence_listed}
use Rattle.independent.proofs.AnswerLaws.{accepted_if, first-refused, second-refused, fresh_marks, answered}
use Rattle.independent.proofs.independent.Goals as goal

-- a lemma's facts, as the clauses have names
named2 : {A B R : Type 0} → (A → B → R) → A × B → R
named2 f h = f h.0 h.1

pub returns-in-Err : goal.returns-in-Err
unfolding independence_listed compile_listed
returns-in-Err c = named2 (λ h0 h1. record { answer = h0; either = h1 }) (answered _ _ _ (first-refused _ _ _ c.in-Err.ensures))

pub returns-in-Err-plan : goal.returns-in-Err-plan
unfolding independence_listed compile_listed
returns-in-Err-plan c = named2 (λ h0 h1. record { answer = h0; either = h1 }) (answered _ _ _
    (second-refused _ _ _ (accepted_if _ _ c.plan.ensures c.in_default.not-Err) c.in-Err-plan.ensures))

pub compare-requires : goal.compare-requires
compare-requires c = (
  accepted_if _ _ c.plan.ensures c.in_default.not-Err,
  accepted_if _ _ c.plan-2.ensures c.in_default-plan.not-Err,
  fresh_marks 8216 refl,
)

pub returns : goal.returns
returns c = named2 (λ h0 h1. record { answer = h0; either = h1 }) (answered _ _ _ c.compare.ensures)
