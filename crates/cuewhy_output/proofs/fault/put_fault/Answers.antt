use Rattle.std.proofs.Common.{◌≡◌, ne_eqb, rules, ◌∙◌}
use Rattle.lbp16.specs.Answer.{rule_number}
use Rattle.text.specs.Number.{ascii}
use Rattle.cuewhy_output.specs.Wording.{fault_text}
use Rattle.cuewhy_output.proofs.fault.put_fault.Goals as goal

pub returns-in-21 : goal.returns-in-21
unfolding fault_text ascii
returns-in-21 c = rw (← c.number.ensures, c.in-21.is) c.put.ensures

pub returns-in-22 : goal.returns-in-22
unfolding fault_text
returns-in-22 c = rw (← c.number.ensures, c.in-22.is, ← c.cause_number.ensures, c.if-cause_number-eq1.true) c.put_mark.ensures

pub returns-in-22-2 : goal.returns-in-22-2
unfolding fault_text
returns-in-22-2 c =
    rw (← c.number.ensures, c.in-22.is, ← c.cause_number.ensures, ne_eqb _ _ c.if-cause_number-eq1.false) c.put_cut.ensures

pub returns-in_default : goal.returns-in_default
unfolding fault_text
returns-in_default c =
    let a : c.number.result ≡ 21 → ⊥ = search rules in
    let b : c.number.result ≡ 22 → ⊥ = search rules in
    let n = rule_number c.args.w.refusal.rule in
    rw (ne_eqb n 21 (λ z. a (c.number.ensures ∙ z)), ne_eqb n 22 (λ z. b (c.number.ensures ∙ z))) c.put_bad.ensures
