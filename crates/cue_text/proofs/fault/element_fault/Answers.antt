use Rattle.std.proofs.Common.{ap, ◌∙◌}
use Rattle.cue_text.specs.Fault.{number_in, cause_numbered}
use Rattle.cue_text.specs.Inside.{element_fault_numbered}
use Rattle.cue_text.proofs.FaultLaws.{element_wrong}
use Rattle.cue_text.proofs.fault.element_fault.Goals as goal

pub returns-in-Some : goal.returns-in-Some
returns-in-Some c = c.listed_fault.ensures
    ∙ element_wrong _ _ _ _ (c.unwrap_or-s.ensures ∙ ap number_in c.space_of.ensures) (c.unwrap_or-a.ensures ∙ ap number_in c.address_of.ensures)
    (rw c.in-Some.is at c.element_cause.ensures)

pub returns-in-None : goal.returns-in-None
unfolding cause_numbered element_fault_numbered
returns-in-None c = c.told.ensures
    ∙ element_wrong _ _ _ _ (c.unwrap_or-s.ensures ∙ ap number_in c.space_of.ensures) (c.unwrap_or-a.ensures ∙ ap number_in c.address_of.ensures)
    (rw c.in-None.is at c.element_cause.ensures)
