use Rattle.card.proofs.CommandRunLaws.{span-is}
use Rattle.card.proofs.run.span_of.Goals as goal

pub returns : goal.returns
returns c = span-is _ _ _ c.step_of.ensures
