use Rattle.sentence.proofs.WholeLaws.{too_little, enough}
use Rattle.sentence.proofs.whole.Goals as goal

pub returns-then-out-n : goal.returns-then-out-n
returns-then-out-n c = let e = c.says-sentence.ensures in
    let h = c.if-out-n.true in
    rw (← e) (too_little _ _ h)

pub returns : goal.returns
returns c = let e = c.says-sentence.ensures in
    let h = c.if-out-n.false in
    rw (← e) (enough _ _ h c.put.ensures)
