use mathlib.Core.Path.{sym, ap, ◌∙◌}
use native.Mathlib.Omega.{arith}
use lib.ListN.{length}
use Rattle.sserial.proofs.FieldLaws.{directed-taken, directed_passed, directed-none}
use Rattle.sserial.proofs.field.DirectedIterator.next.Goals as goal

pub returns-then-stands_in-clause-steps : goal.returns-then-stands_in-clause-steps
returns-then-stands_in-clause-steps c =
    sym c.loop-f.invariant
    ∙ directed-taken _ _ _ _ c.in-Some.ensures.steps (sym c.stands_in.ensures ∙ c.if-stands_in.true)

pub returns-then-stands_in-clause-goes : goal.returns-then-stands_in-clause-goes
returns-then-stands_in-clause-goes c =
    let e = sym c.loop-f.invariant
    ∙ directed-taken _ _ _ _ c.in-Some.ensures.steps (sym c.stands_in.ensures ∙ c.if-stands_in.true) in
    record { on = λ _. (tt, tt, omega (arith, ap length e)); keeps = tt; rests = λ _. tt }

pub loop-f-preserved : goal.loop-f-preserved
loop-f-preserved c =
    sym (directed_passed _ _ _ _ c.in-Some.ensures.steps (sym c.stands_in.ensures ∙ c.if-stands_in.false))
    ∙ c.loop-f.invariant

pub returns-clause-steps : goal.returns-clause-steps
returns-clause-steps c =
    let e = c.in_default.ensures.steps in
    (sym c.loop-f.invariant ∙ directed-none _ _ e.0, directed-none _ _ e.1)
