use Rattle.cuefix_output.proofs.LookLaws.{look_none, look_some}
use Rattle.cuefix_output.proofs.lines.look.Goals as goal

pub returns-then-start-from : goal.returns-then-start-from
returns-then-start-from c = look_none _ _ _ _ c.if-start-from.true

pub returns : goal.returns
returns c = look_some _ _ _ _ _ _ _ _ c.if-start-from.false c.last_record-k.ensures.0 c.between.ensures c.put_record.ensures
