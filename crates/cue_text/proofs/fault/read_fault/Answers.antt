use mathlib.Core.Path.{◌∙◌}
use mathlib.Core.Path.{refl}
use native.Mathlib.Omega.{arith}
use borrow.Author.Tests.{eq-eqb, ne_eqb}
use Rattle.cue_text.specs.Fault.{form_fault}
use Rattle.cue_text.proofs.fault.read_fault.Goals as goal

pub place_fault-requires : goal.place_fault-requires
place_fault-requires c = omega arith

pub returns-then-number-eq82 : goal.returns-then-number-eq82
unfolding form_fault
returns-then-number-eq82 c = λ above. c.place_fault.ensures ∙ rw (eq-eqb _ _ c.if-number-eq82.true) refl

pub element_fault-requires : goal.element_fault-requires
element_fault-requires c = omega arith

pub returns : goal.returns
unfolding form_fault
returns c = λ above. c.element_fault.ensures ∙ rw (ne_eqb _ _ c.if-number-eq82.false) refl
