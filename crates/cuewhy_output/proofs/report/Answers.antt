use Rattle.std.proofs.Common.{ap, arith}
use Rattle.list_reason.specs.ListReason.{ListWhy}
use Rattle.text.specs.Number.{ascii}
use Rattle.lbp16.proofs.RuleLaws.{rule_number_range}
use Rattle.list_reason.proofs.WhyLaws.{offset_within}
use Rattle.cuewhy_output.specs.Said.{usage_line}
use Rattle.cuewhy_output.proofs.SaidLaws.{none-why, said_usage, said-too_long, said-accepted, said-refused}
use borrow.Author.Rules.{rules}
use Rattle.cuewhy_output.proofs.report.Goals as goal

pub returns-then-count-ne1 : goal.returns-then-count-ne1
unfolding usage_line ascii
returns-then-count-ne1 c = said_usage _ _ _ _ _ (search rules) c.if-count-ne1.true c.put.ensures

pub returns-then-list-gt-MOST : goal.returns-then-list-gt-MOST
returns-then-list-gt-MOST c = said-too_long _ _ _ _ _ (search rules) c.if-count-ne1.false c.if-list-gt-MOST.true c.too_long.ensures

pub returns-in_default : goal.returns-in_default
returns-in_default c = said-accepted _ _ _ _ _ (search rules) c.if-count-ne1.false c.if-list-gt-MOST.false _ c.why.ensures.why
    (none-why _ c.in_default.not-Some)
    c.walk.result c.walk.ensures
    c.unwrap_or.ensures
    c.accepted.ensures

pub slice_bounds-refused-count : goal.slice_bounds-refused-count
slice_bounds-refused-count c = rw (ap (λ (x : ListWhy). x.offset) (rw c.in-Some.is at c.why.ensures.why)) (offset_within _)

pub slice_bounds-refused-start : goal.slice_bounds-refused-start
slice_bounds-refused-start c = rw (ap (λ (x : ListWhy). x.offset) (rw c.in-Some.is at c.why.ensures.why)) (offset_within _)

pub returns : goal.returns
returns c = said-refused _ _ _ _ _ (search rules) c.if-count-ne1.false c.if-list-gt-MOST.false _ (rw c.in-Some.is at c.why.ensures.why)
    (λ z. omega (arith, rule_number_range c.in-Some.w.refusal.rule, z)) (omega (arith, rule_number_range c.in-Some.w.refusal.rule))
    (omega arith) (omega arith)
    c.refused.ensures.1
    c.refused.ensures.0
