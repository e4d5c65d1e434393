use native.Mathlib.Omega.{arith}
use Rattle.text.specs.Number.{ascii}
use Rattle.cuedis_output.specs.Report.{usage_line}
use Rattle.cuedis_output.proofs.ReportLaws.{usage_reported, too_long-reported, text-reported, refusal-reported}
use Rattle.cuedis_output.proofs.report.Goals as goal

pub returns-then-words-ne1 : goal.returns-then-words-ne1
unfolding usage_line ascii
returns-then-words-ne1 c = usage_reported _ _ _ (omega arith) c.if-words-ne1.true _ _ c.put.ensures

pub returns-then-input-gt-MOST : goal.returns-then-input-gt-MOST
returns-then-input-gt-MOST c = too_long-reported _ _ _ (omega arith) c.if-words-ne1.false (omega arith) _ _ c.too_long.ensures

pub returns-in-Ok : goal.returns-in-Ok
returns-in-Ok c = text-reported _ _ _ (omega arith) c.if-words-ne1.false (omega arith) _ _ c.write.ensures.written _ c.in-Ok.is

pub returns-in-Err : goal.returns-in-Err
returns-in-Err c = refusal-reported _ _ _ (omega arith) c.if-words-ne1.false (omega arith) _ _ c.write.ensures.written _ (omega arith)
    c.in-Err.is _ _
    (rw c.number.ensures at c.refused.ensures)
