use Rattle.cue_text.proofs.SaidLaws.{said-good, said-bad}
use Rattle.cue_text.proofs.line.record_said.Goals as goal

pub returns-in-Ok : goal.returns-in-Ok
returns-in-Ok c text = said-good text _ _ c.ruling_of.ensures c.in-Ok.is

pub returns-in-Err : goal.returns-in-Err
returns-in-Err c text = said-bad text _ _ c.ruling_of.ensures c.in-Err.is
