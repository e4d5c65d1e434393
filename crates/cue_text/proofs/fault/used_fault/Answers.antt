use mathlib.Core.Path.{◌∙◌}
use mathlib.Core.Path.{refl, sym}
use Rattle.cue_text.specs.Fault.{used_fault}
use Rattle.cue_text.proofs.fault.used_fault.Goals as goal

pub returns-then-is_name : goal.returns-then-is_name
unfolding used_fault
returns-then-is_name c = c.told.ensures ∙ rw (sym c.is_name.ensures ∙ c.if-is_name.true) refl

pub returns : goal.returns
unfolding used_fault
returns c = c.told-2.ensures ∙ rw (sym c.is_name.ensures ∙ c.if-is_name.false) refl
