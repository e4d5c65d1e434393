use native.Mathlib.Omega.{arith}
use Rattle.card.proofs.CellLaws.{writing_starts, writing-inside, writing-next, writing-ends}
use Rattle.card.proofs.cells.store_cells.Goals as goal

pub loop-i-init : goal.loop-i-init
loop-i-init c = let p = c.requires in writing_starts _ _ _ _ p.0 p.1

pub bounds-words-i : goal.bounds-words-i
bounds-words-i c = c.loop-i-test.true

pub store4-requires : goal.store4-requires
store4-requires c = (writing-inside c.loop-i.invariant c.loop-i-test.true).1

pub overflow_add-at : goal.overflow_add-at
overflow_add-at c = let w = writing-inside c.loop-i.invariant c.loop-i-test.true in
    let same = c.loop-i.invariant.same in
    omega (arith, c.well_formed)

pub loop-i-preserved : goal.loop-i-preserved
loop-i-preserved c = writing-next c.loop-i.invariant c.loop-i-test.true _ c.store4.ensures

pub shape_of-store : goal.shape_of-store
shape_of-store c = c.loop-i.invariant.same

pub returns : goal.returns
returns c = writing-ends c.loop-i.invariant c.loop-i-test.false
