use Rattle.card.proofs.AnswerLaws.{check-listed}
use Rattle.card.proofs.check.check.Goals as goal

pub returns : goal.returns
returns c = check-listed _ _ _ _ _ c.listed-lent.ensures c.check_lent.ensures
