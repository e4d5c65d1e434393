use mathlib.Core.Path.{refl}
use native.Mathlib.Omega.{arith}
use lib.ListN.{length-take, length-drop}
use Rattle.cuepipe_output.proofs.FeedLaws.{within-some, feeding_first, feeding_last, feeding_stops, feeding_bound, feeding_next, goes-taken}
use borrow.Author.Rules.{rules}
use Rattle.cuepipe_output.proofs.take_all.Goals as goal

pub loop-rest-init : goal.loop-rest-init
loop-rest-init c = (feeding_first _ _ _, refl, refl)

pub returns-in_default : goal.returns-in_default
returns-in_default c = let f = c.loop-rest.invariant.0 in
    let e = c.call-c.ensures in
    record {
      out_after = feeding_stops f c.loop-rest-test.true _ _ _ e.out_after c.in_default.is;
      bounded = feeding_bound f c.loop-rest-test.true _ _ _ e.out_after e.within.1;
    }

pub loop-rest-smaller : goal.loop-rest-smaller
loop-rest-smaller c = let e = c.call-c.ensures in
    let one = goes-taken _ _ _ _ _ _ _ e.out_after _ c.in-Some.is in
    let most = within-some e.within.0 c.in-Some.is in
    simp (length-take, length-drop) (omega (arith, most, one))

pub loop-rest-preserved : goal.loop-rest-preserved
loop-rest-preserved c = let f = c.loop-rest.invariant.0 in
    let e = c.call-c.ensures in
    (feeding_next f c.loop-rest-test.true _ _ _ e.out_after _ c.in-Some.is (within-some e.within.0 c.in-Some.is) e.within.1 _ refl, search rules, search rules)

pub returns : goal.returns
returns c = let f = c.loop-rest.invariant.0 in
    record {
      out_after = feeding_last f c.loop-rest-test.false;
      bounded = omega (arith, f.bound);
    }
