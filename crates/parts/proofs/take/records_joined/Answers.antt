use mathlib.Core.Path.{refl, sym, ◌∙◌}
use native.Mathlib.Omega.{arith}
use Rattle.parts.proofs.WholeLaws.{runs_none, runs_more}
use Rattle.parts.proofs.take.records_joined.Goals as goal

pub loop-at-init : goal.loop-at-init
loop-at-init c = let p = c.requires in (refl, runs_none _ _ _ _ p.0 p.1 p.2)

pub record_joined-j-requires : goal.record_joined-j-requires
record_joined-j-requires c = let h = c.loop-at.invariant.1 in (h.sound, h.few, h.held)

pub shape_of-room-then-j-eq0 : goal.shape_of-room-then-j-eq0
shape_of-room-then-j-eq0 c = c.record_joined-j.ensures.held ∙ sym c.requires.2

pub returns-then-j-eq0 : goal.returns-then-j-eq0
returns-then-j-eq0 c = let d = c.record_joined-j.ensures in
    let l = c.loop-at in
    runs_more _ _ _ _ _ _ l.invariant.1 _ _ d

pub loop-at-smaller : goal.loop-at-smaller
loop-at-smaller c = omega (arith, c.if-j-eq0.false, c.loop-at-test.true)

pub loop-at-preserved : goal.loop-at-preserved
loop-at-preserved c = let d = c.record_joined-j.ensures in
    let l = c.loop-at in
    (d.held ∙ sym c.requires.2, runs_more _ _ _ _ _ _ l.invariant.1 _ _ d)

pub shape_of-room : goal.shape_of-room
shape_of-room c = c.loop-at.invariant.0

pub returns : goal.returns
returns c = c.loop-at.invariant.1
