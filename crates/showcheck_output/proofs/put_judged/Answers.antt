use Rattle.showcheck_output.proofs.FindingLaws.{judged-is}
use Rattle.showcheck_output.proofs.put_judged.Goals as goal

pub returns : goal.returns
returns c = let a = c.args in
    let e = judged-is _ a.frames.now _ _ _ _ _ _ _ c.judge_in-judged.ensures c.least-at.ensures in
    let v = c.put_verdict.ensures in
    record {
      room_after = rw e at v.room_after;
      fits = rw e at v.fits;
    }
