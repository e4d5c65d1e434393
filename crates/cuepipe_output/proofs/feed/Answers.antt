use native.Mathlib.Omega.{arith}
use Rattle.cuepipe_output.proofs.FeedLaws.{fed-last, fed-some}
use Rattle.cuepipe_output.proofs.feed.Goals as goal

pub returns-then-part-eq0 : goal.returns-then-part-eq0
returns-then-part-eq0 c = let e = c.call-c.ensures in
    record {
      fed = fed-last _ _ _ _ _ _ c.if-part-eq0.true e.out_after;
      bounded = omega (arith, e.within.1);
    }

pub returns : goal.returns
returns c = let a = c.args in
    let e = c.take_all.ensures in
    record {
      fed = rw (fed-some a.state.now a.part.now (omega (arith, c.if-part-eq0.false))) e.out_after;
      bounded = omega (arith, e.bounded);
    }
