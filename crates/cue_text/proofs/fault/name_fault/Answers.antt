use Rattle.std.proofs.Common.{refl, rules, ne_eqb, ◌∙◌}
use Rattle.cue_text.specs.Fault.{form_fault}
use Rattle.cue_text.proofs.fault.name_fault.Goals as goal

pub returns-in-82 : goal.returns-in-82
unfolding form_fault
returns-in-82 c = c.place_fault.ensures ∙ rw (c.part-space.ensures, c.in-82.is) refl

pub returns-in-83 : goal.returns-in-83
unfolding form_fault
returns-in-83 c = c.defined_fault.ensures ∙ rw (c.part.ensures, c.in-83.is) refl

pub returns-in_default : goal.returns-in_default
unfolding form_fault
returns-in_default c = c.element_fault.ensures
    ∙ rw (c.part-space.ensures, c.part-in_default.ensures, ne_eqb c.args.number 82 (search rules), ne_eqb c.args.number 83 (search rules)) refl
