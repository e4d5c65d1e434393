use mathlib.Core.Path.{refl, sym, ◌∙◌}
use native.Mathlib.Omega.{arith}
use lib.ListN.{length}
use Rattle.parts.proofs.PartLaws.{going-first, going_next, going-last, test-going, some_left, fewer-left, rest-within}
use Rattle.parts.proofs.take.bytes_taken.Goals as goal

pub loop-at-init : goal.loop-at-init
loop-at-init c = let p = c.requires in (refl, going-first _ _ _ _ p.0 p.1)

pub stretch_taken-t-requires : goal.stretch_taken-t-requires
stretch_taken-t-requires c = let t = c.loop-at-test.true in
    let l = c.loop-at in
    let k = l.invariant.1.leaves in
    let n = length c.args.part.now in (
      k.ranged,
      k.rooms,
      test-going l.at n l.kept.stands l.written t,
      some_left l.at n l.kept.stands l.written t c.args.part.now refl,
    )

pub overflow_add-at : goal.overflow_add-at
overflow_add-at c = let l = c.loop-at.invariant.1 in
    let w = rest-within c.args.part.now _ _ l.within c.stretch_taken-t.ensures.0.within in
    omega (arith, w, c.well_formed)

pub loop-at-smaller : goal.loop-at-smaller
loop-at-smaller c = let l = c.loop-at in
    fewer-left l.at (length c.args.part.now) l.kept.stands l.written c.loop-at-test.true _ c.stretch_taken-t.ensures.1

pub loop-at-preserved : goal.loop-at-preserved
loop-at-preserved c = let m = c.stretch_taken-t.ensures.0 in
    let l = c.loop-at in (
      m.leaves.rooms.held ∙ sym l.invariant.1.leaves.rooms.held ∙ l.invariant.0,
      going_next _ _ _ _ _ _ _ _ l.invariant.1 _ _ _ _ _ c.loop-at-test.true m,
    )

pub shape_of-room : goal.shape_of-room
shape_of-room c = c.loop-at.invariant.0

pub shape_of-out : goal.shape_of-out
shape_of-out c = c.loop-at.invariant.1.leaves.lent

pub returns : goal.returns
returns c = going-last _ _ _ _ _ _ _ _ c.loop-at.invariant.1 c.loop-at-test.false
