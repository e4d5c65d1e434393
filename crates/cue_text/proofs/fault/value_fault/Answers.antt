use Rattle.std.proofs.Common.{refl, arith, ◌∙◌}
use Rattle.cue_text.specs.Fault.{write_fault}
use Rattle.cue_text.proofs.FaultLaws.{either}
use Rattle.cue_text.proofs.fault.value_fault.Goals as goal

pub place_fault-requires : goal.place_fault-requires
place_fault-requires c = omega arith

pub returns-then-is_none : goal.returns-then-is_none
unfolding write_fault
returns-then-is_none c = c.place_fault.ensures
    ∙ rw (← c.space_of.ensures, ← c.address_of.ensures, c.is_none.ensures, c.is_none-2.ensures, either _ _ c.if-is_none.true) refl

pub returns : goal.returns
unfolding write_fault
returns c = c.told.ensures
    ∙ rw (← c.space_of.ensures, ← c.address_of.ensures, c.is_none.ensures, c.is_none-2.ensures, either _ _ c.if-is_none.false) refl
