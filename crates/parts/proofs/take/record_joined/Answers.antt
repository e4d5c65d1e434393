use mathlib.Core.Path.{sym, ◌∙◌}
use Rattle.parts.proofs.TakeLaws.{no_err}
use Rattle.parts.proofs.WholeLaws.{runs_none, runs_record}
use Rattle.parts.proofs.take.record_joined.Goals as goal

pub returns-then-is_err : goal.returns-then-is_err
returns-then-is_err c = let p = c.requires in runs_none _ _ _ _ p.0 p.1 p.2

pub returns-then-q-eq2 : goal.returns-then-q-eq2
returns-then-q-eq2 c = let p = c.requires in runs_none _ _ _ _ p.0 p.1 p.2

pub returns : goal.returns
returns c = let p = c.requires in
    runs_record _ _ _ _ p.0 p.1 p.2 _ c.record_refusal.ensures (no_err _ (sym c.is_err.ensures.value ∙ c.if-is_err.false)) _
    c.record_at-r.ensures _ c.turned-q.ensures c.if-q-eq2.false _ c.put.ensures _
    c.record_bytes.ensures.0
