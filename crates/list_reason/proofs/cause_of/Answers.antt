use mathlib.Core.Path.{sym, ap, ◌∙◌}
use Rattle.lbp16.specs.Answer.{rule_number}
use Rattle.list_reason.proofs.CauseLaws.{causes_22, causes_23, causes_24, causes_none}
use borrow.Author.Rules.{rules}
use Rattle.list_reason.proofs.cause_of.Goals as goal

pub returns-in-Record : goal.returns-in-Record
returns-in-Record c = λ index e. c.mark_cause.ensures ∙ sym (causes_22 _ _ (ap rule_number c.in-Record.is))

pub returns-in-RecordElement : goal.returns-in-RecordElement
returns-in-RecordElement c = λ index e. c.record_cause.ensures ∙ sym (causes_23 _ _ (ap rule_number c.in-RecordElement.is))

pub returns-in-RecordValue : goal.returns-in-RecordValue
returns-in-RecordValue c = let k = ap rule_number c.in-RecordValue.is in
    λ index e. c.value_cause.ensures index (e ∙ k) ∙ sym (causes_24 _ _ k)

pub returns-in_default : goal.returns-in_default
returns-in_default c = λ index e. sym (causes_none _ _ (search rules) (search rules) (search rules))
