use Rattle.planner.proofs.DraftLaws.{draft_again, shorter}
use Rattle.planner.proofs.propose.drafted.Goals as goal

pub loop-rest-smaller : goal.loop-rest-smaller
loop-rest-smaller c = shorter c.loop-rest.rest.now _ _ c.record_bytes-n.ensures.0 c.loop-rest-test.true

pub loop-rest-preserved : goal.loop-rest-preserved
loop-rest-preserved c = draft_again c.loop-rest.invariant c.turned-q.ensures (c.loose.ensures c.if-loose.false)
    c.put_record.auto.out
    c.put_record.ensures
