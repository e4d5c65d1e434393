use Rattle.tight.proofs.StepLaws.{carried_some, carried_no}
use Rattle.tight.proofs.walk.carried_bytes.Goals as goal

pub returns-then-write : goal.returns-then-write
returns-then-write c = carried_some _ _ _ c.if-write.true c.row_of.ensures

pub returns-else-write : goal.returns-else-write
returns-else-write c = carried_no _ _ c.if-write.false
