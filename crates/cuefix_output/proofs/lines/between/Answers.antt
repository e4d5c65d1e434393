use Rattle.cuefix_output.proofs.LookLaws.{between_is}
use Rattle.cuefix_output.proofs.lines.between.Goals as goal

pub returns : goal.returns
returns c = between_is _ _ _ _ _ c.requires c.least-a.ensures c.least-b.ensures
