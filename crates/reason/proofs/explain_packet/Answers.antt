use mathlib.Core.Path.{sym, ap, ◌∙◌}
use Rattle.packet.specs.Verdict.{verdict_listed}
use Rattle.reason.specs.Reason.{unnamed, named, reason_listed}
use native.Mathlib.Omega.{arith}
use Rattle.lbp16.proofs.RuleLaws.{rule_number_range}
use Rattle.reason.proofs.ReasonLaws.{refused-of, reason_long, reason_accepted, reason_named}
use Rattle.reason.proofs.explain_packet.Goals as goal

pub returns-then-packet-gt-LIMIT : goal.returns-then-packet-gt-LIMIT
unfolding reason_listed unnamed
returns-then-packet-gt-LIMIT c = record {
  told = rw (c.no_command.ensures, c.number.ensures) (reason_long _ _ c.if-packet-gt-LIMIT.true);
  refused = rw (c.no_command.ensures, c.number.ensures) (omega arith);
}

pub returns-in-Ok : goal.returns-in-Ok
unfolding verdict_listed reason_listed
returns-in-Ok c = let v = ap verdict_listed (sym c.in-Ok.is) ∙ c.judge.ensures in
    record { told = reason_accepted _ _ c.if-packet-gt-LIMIT.false _ v; refused = tt }

pub walk-requires : goal.walk-requires
unfolding verdict_listed
walk-requires c = rw c.number-in-Err.ensures (refused-of _ _ _ c.in-Err.ensures)

pub returns-in-Err : goal.returns-in-Err
unfolding verdict_listed reason_listed named
returns-in-Err c = record {
  told = rw (c.walk.ensures, c.number-in-Err.ensures) (reason_named _ _ c.if-packet-gt-LIMIT.false _ _ (refused-of _ _ _ c.in-Err.ensures));
  refused = rw (c.walk.ensures, c.number-in-Err.ensures) (rule_number_range c.in-Err.r.rule).0;
}
