use mathlib.Core.Path.{sym, ap, ◌∙◌}
use native.Mathlib.Omega.{arith}
use lib.ListN.{length}
use Rattle.sserial.proofs.TableLaws.{readable, entry-lent}
use Rattle.sserial.proofs.FieldLaws.{met_none, met_mode, met_field}
use Rattle.sserial.proofs.field.FieldsIterator.next.Goals as goal

pub returns-in-End-clause-steps : goal.returns-in-End-clause-steps
returns-in-End-clause-steps c =
    let e = met_none _ _ _ c.entry_at-entry.ensures c.in-End.is in
    (sym c.loop-self.invariant ∙ e, e)

pub overflow_add-self : goal.overflow_add-self
overflow_add-self c =
    let h = entry-lent _ _ _ c.entry_at-entry.ensures (ap readable c.in-Mode.is) in
    omega arith

pub loop-self-smaller : goal.loop-self-smaller
loop-self-smaller c =
    let h = entry-lent _ _ _ c.entry_at-entry.ensures (ap readable c.in-Mode.is) in
    omega arith

pub loop-self-preserved : goal.loop-self-preserved
loop-self-preserved c = sym (met_mode _ _ _ c.entry_at-entry.ensures c.in-Mode.is) ∙ c.loop-self.invariant

pub overflow_add-self-in-Field : goal.overflow_add-self-in-Field
overflow_add-self-in-Field c =
    let h = entry-lent _ _ _ c.entry_at-entry.ensures (ap readable c.in-Field.is) in
    omega arith

pub returns-in-Field-clause-steps : goal.returns-in-Field-clause-steps
returns-in-Field-clause-steps c =
    sym c.loop-self.invariant ∙ met_field _ _ _ c.entry_at-entry.ensures _ c.in-Field.is

pub returns-in-Field-clause-goes : goal.returns-in-Field-clause-goes
returns-in-Field-clause-goes c =
    let e = sym c.loop-self.invariant ∙ met_field _ _ _ c.entry_at-entry.ensures _ c.in-Field.is in
    record { on = λ _. (tt, tt, omega (arith, ap length e)); keeps = tt; rests = λ _. tt }
