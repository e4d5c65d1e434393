use mathlib.Core.Path.{sym, ◌∙◌}
use native.Mathlib.Omega.{arith}
use lib.ListN.{length-take, length-drop}
use Rattle.interlock.proofs.PlaceLaws.{some_bytes, walk-begin, walk_end, walk-whole, walk-found, walk-next}
use Rattle.interlock.proofs.walk.protected_place.Goals as goal

pub loop-rest-init : goal.loop-rest-init
loop-rest-init c = walk-begin _ _ _ _ c.from_lent-p.ensures

pub returns-then-writes_protected : goal.returns-then-writes_protected
returns-then-writes_protected c =
    let some = c.loop-rest-test.true in
    let left = c.loop-rest.invariant.left in
    record {
      place = λ l end a.
          let told = c.writes_protected.ensures _ _ c.address-used.ensures in
          walk-found c.loop-rest.invariant c.loop-rest-test.true _ c.fields_at-f.ensures end a (sym told ∙ c.if-writes_protected.true);
      inside = omega arith;
    }

pub returns-then-rest-k : goal.returns-then-rest-k
returns-then-rest-k c = record {
  place = λ l end a.
      let whole = walk-whole c.loop-rest.invariant c.loop-rest-test.true _ c.fields_at-f.ensures end a _ c.whole-k.ensures in
      let cut = c.if-rest-k.true in
      absurd (omega arith);
  inside = tt;
}

pub loop-rest-smaller : goal.loop-rest-smaller
loop-rest-smaller c = let two = some_bytes _ _ c.whole-k.ensures in
    let whole = c.if-rest-k.false in
    simp (length-take, length-drop) (omega arith)

pub loop-rest-preserved : goal.loop-rest-preserved
loop-rest-preserved c = let told = c.writes_protected.ensures _ _ c.address-used.ensures in
    walk-next c.loop-rest.invariant c.loop-rest-test.true _ c.fields_at-f.ensures (sym told ∙ c.if-writes_protected.false) _
    c.address-used.ensures
    _
    c.moved-p.ensures
    _
    c.whole-k.ensures
    c.if-rest-k.false

pub returns : goal.returns
returns c = record { place = λ l. walk_end c.loop-rest.invariant (let none = c.loop-rest-test.false in omega arith); inside = tt }
