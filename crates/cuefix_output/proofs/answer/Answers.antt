use native.Mathlib.Omega.{arith}
use Rattle.cuefix_output.proofs.AccountLaws.{usage_answered, answered-too_long, list-asked, list-answered, log-answered}
use Rattle.cuefix_output.proofs.answer.Goals as goal

pub returns-in-Usage : goal.returns-in-Usage
returns-in-Usage c = usage_answered _ _ _ _ c.in-Usage.is

pub returns-then-input-gt-MOST : goal.returns-then-input-gt-MOST
returns-then-input-gt-MOST c = answered-too_long _ _ _ _ c.in_default.not-Usage c.if-input-gt-MOST.true

pub returns-in-Log : goal.returns-in-Log
returns-in-Log c = log-answered _ _ _ _ _ _ _ (omega (arith, c.if-input-gt-MOST.false)) c.save-counts.ensures c.in-Log.is

pub returns-in_default-request : goal.returns-in_default-request
returns-in_default-request c = let w = list-asked _ c.in_default.not-Usage c.in_default-request.not-Log in
    list-answered _ _ _ _ _ _ _ (omega (arith, c.if-input-gt-MOST.false)) c.save-counts.ensures w
