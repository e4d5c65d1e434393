use Prim.Native.Nat.{ℕ, ◌-◌}
use mathlib.Core.Path.{ap, ◌∙◌}
use mathlib.Core.List.{◌∷◌}
use native.Mathlib.Omega.{arith}
use lib.ListN.{length-set}
use Rattle.card.proofs.CellLaws.{reading_starts, reading-inside, reading-next, reading-ends}
use Rattle.card.specs.Cells.{cells}
use Rattle.card.proofs.cells.fetch_cells.Goals as goal

pub bounds-answer-0 : goal.bounds-answer-0
bounds-answer-0 c = omega arith

pub loop-i-init : goal.loop-i-init
loop-i-init c = reading_starts _ c.args.answer.now _ _ c.requires.0 c.requires.1

pub fetch4-requires : goal.fetch4-requires
fetch4-requires c = (reading-inside c.loop-i.invariant (omega (arith, c.loop-i.invariant.same))).1

pub offset_bounds-answer-i : goal.offset_bounds-answer-i
offset_bounds-answer-i c = omega (arith, length-set c.args.answer.now 0 0)

pub bounds-answer-i : goal.bounds-answer-i
bounds-answer-i c = omega (arith, c.loop-i.invariant.same)

pub overflow_add-at : goal.overflow_add-at
overflow_add-at c = let r = reading-inside c.loop-i.invariant (omega (arith, c.loop-i.invariant.same)) in
    omega (arith, c.well_formed)

pub loop-i-preserved : goal.loop-i-preserved
loop-i-preserved c = reading-next c.loop-i.invariant (omega (arith, c.loop-i.invariant.same)) _ c.fetch4.ensures

pub shape_of-answer : goal.shape_of-answer
shape_of-answer c = c.loop-i.invariant.same ∙ simp length-set

pub returns : goal.returns
returns c = let a = c.args in
    reading-ends c.loop-i.invariant (omega (arith, c.loop-i.invariant.same))
    ∙ ap (λ (n : ℕ). 0 ∷ cells (n - 1) a.from a.stride a.store.now) (length-set a.answer.now 0 0)
