use mathlib.Core.Path.{◌∙◌}
use mathlib.Core.Path.{refl, sym}
use Rattle.cue_text.specs.Fault.{defined_fault}
use Rattle.cue_text.proofs.fault.defined_fault.Goals as goal

pub returns-then-not-is_name : goal.returns-then-not-is_name
unfolding defined_fault
returns-then-not-is_name c = c.told.ensures ∙ rw (sym c.is_name.ensures ∙ c.if-not-is_name.true) refl

pub returns-then-is_defined : goal.returns-then-is_defined
unfolding defined_fault
returns-then-is_defined c = c.told-then-is_defined.ensures
    ∙ rw (sym c.is_name.ensures ∙ c.if-not-is_name.false, sym c.is_defined.ensures ∙ c.if-is_defined.true) refl

pub returns : goal.returns
unfolding defined_fault
returns c = c.told-2.ensures
    ∙ rw (sym c.is_name.ensures ∙ c.if-not-is_name.false, sym c.is_defined.ensures ∙ c.if-is_defined.false) refl
