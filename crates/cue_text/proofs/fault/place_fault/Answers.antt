use Rattle.std.proofs.Common.{refl, arith, ◌∙◌}
use Rattle.cue_text.specs.Fault.{place_fault}
use Rattle.cue_text.proofs.fault.place_fault.Goals as goal

pub overflow_add-i : goal.overflow_add-i
overflow_add-i c = let h = c.requires in omega arith

pub returns-then-is_none : goal.returns-then-is_none
unfolding place_fault
returns-then-is_none c = c.told.ensures ∙ rw (← c.space_of.ensures, c.is_none.ensures, c.if-is_none.true) refl

pub returns : goal.returns
unfolding place_fault
returns c = c.told-2.ensures ∙ rw (← c.space_of.ensures, c.is_none.ensures, c.if-is_none.false) refl
