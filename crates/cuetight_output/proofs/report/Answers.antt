use native.Mathlib.Omega.{arith}
use Rattle.cuetight_output.proofs.ReportLaws.{too_long-reported, packets-reported, refusal-reported}
use Rattle.cuetight_output.proofs.report.Goals as goal

pub returns-then-input-gt-MOST : goal.returns-then-input-gt-MOST
returns-then-input-gt-MOST c = too_long-reported _ _ _ _ (omega arith) (omega arith) c.too_long.ensures

pub returns-in-Ok : goal.returns-in-Ok
returns-in-Ok c = packets-reported _ _ (omega arith) _ _ c.tighten.ensures.tightened _ c.in-Ok.is

pub returns-in-Err : goal.returns-in-Err
returns-in-Err c = refusal-reported _ _ (omega arith) _ _ c.tighten.ensures.tightened _ _ _ _ (omega arith) c.number.ensures (omega arith)
    c.in-Err.is
    c.refused.ensures
