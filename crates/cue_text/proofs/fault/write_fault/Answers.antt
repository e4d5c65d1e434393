use Rattle.std.proofs.Common.{refl, rules, ne_eqb, ◌∙◌}
use Rattle.cue_text.specs.Fault.{form_fault}
use Rattle.cue_text.proofs.fault.write_fault.Goals as goal

pub returns-in-82 : goal.returns-in-82
unfolding form_fault
returns-in-82 c above v = c.value_fault.ensures ∙ rw c.in-82.is refl

pub returns-in-24 : goal.returns-in-24
unfolding form_fault
returns-in-24 c above v = c.told.ensures ∙ rw c.in-24.is refl

pub returns-in_default : goal.returns-in_default
unfolding form_fault
returns-in_default c above v = c.element_fault.ensures ∙ rw (ne_eqb c.args.number 82 (search rules), ne_eqb c.args.number 24 (search rules)) refl
