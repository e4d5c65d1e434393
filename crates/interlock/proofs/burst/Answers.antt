use mathlib.Core.Path.{refl, sym, ◌∙◌}
use Rattle.std.proofs.lemmas.Result.{err_from_is_err_and}
use Rattle.packet.specs.Verdict.{verdict_listed}
use Rattle.interlock.proofs.BurstLaws.{rule-stays, refused-left, burst-unsound, burst-passes, burst-stopped}
use Rattle.interlock.proofs.burst.Goals as goal

-- a lemma's facts, as the clauses have names
named2 : {A B R : Type 0} → (A → B → R) → A × B → R
named2 f h = f h.0 h.1

pub returns-in_err-soundness : goal.returns-in_err-soundness
unfolding verdict_listed
returns-in_err-soundness c =
    let p = err_from_is_err_and c.from_residual.result c.from_residual.ensures.1 in
    rw (p.1, p.2) (named2 (λ h0 h1. record { left = h0; bounded = h1 }) (refused-left _ _ _ _ _ (burst-unsound _ _ _ _ _ _ c.in_err-soundness.ensures)))

pub returns-then-not-promises_protected : goal.returns-then-not-promises_protected
unfolding verdict_listed
returns-then-not-promises_protected c = let done = c.burst.ensures in
    let free = sym c.if-not-promises_protected.true ∙ c.promises_protected.ensures in
    record {
      left = done.left ∙ sym (burst-passes _ _ _ _ _ c.in_ok-soundness.ensures free);
      bounded = done.bounded;
    }

pub returns-in-Ok : goal.returns-in-Ok
unfolding verdict_listed
returns-in-Ok c = let some = sym c.if-not-promises_protected.false ∙ c.promises_protected.ensures in
    rw c.at.ensures (named2 (λ h0 h1. record { left = h0; bounded = h1 }) (refused-left _ _ _ _ _
    (burst-stopped _ _ _ _ _ c.in_ok-soundness.ensures some _ c.in-Ok.ensures _ refl)))

pub returns-in-Err : goal.returns-in-Err
unfolding verdict_listed
returns-in-Err c = let some = sym c.if-not-promises_protected.false ∙ c.promises_protected.ensures in
    rw c.at-in-Err.ensures (named2 (λ h0 h1. record { left = h0; bounded = h1 }) (refused-left _ _ _ _ _
    (burst-stopped _ _ _ _ _ c.in_ok-soundness.ensures some _ c.in-Err.ensures _ (rule-stays c.in-Err.rule))))
