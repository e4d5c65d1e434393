use Rattle.packet.proofs.LoopLaws.{judge-listed}
use Rattle.packet.proofs.judge.judge.Goals as goal

pub returns : goal.returns
returns c = judge-listed _ _ c.listed-lent.result _ c.listed-lent.ensures c.judge_lent.ensures
