use Rattle.tight.proofs.StepLaws.{unlocks-is}
use Rattle.tight.proofs.walk.unlocks.Goals as goal

pub returns : goal.returns
returns c = unlocks-is c.args.write _ _ _ _ c.pair_at.ensures
