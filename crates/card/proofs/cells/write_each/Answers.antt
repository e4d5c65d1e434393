use mathlib.Core.Path.{sym, ◌∙◌}
use mathlib.Core.Bool.{true, false}
use native.Mathlib.Omega.{arith}
use Rattle.card.proofs.CellLaws.{written_none, written-by}
use Rattle.card.proofs.cells.write_each.Goals as goal

pub returns-then-words-eq0 : goal.returns-then-words-eq0
returns-then-words-eq0 c = written_none _ _ _ _ c.if-words-eq0.true

pub returns-then-not-cells_within : goal.returns-then-not-cells_within
returns-then-not-cells_within c = sym (written-by _ _ _ _ c.if-words-eq0.false false (sym c.cells_within.ensures ∙ c.if-not-cells_within.true))

pub store_cells-requires : goal.store_cells-requires
store_cells-requires c = let some = c.if-words-eq0.false in
    (omega arith, rw c.if-stride-eq4.true at (sym c.cells_within.ensures ∙ c.if-not-cells_within.false))

pub store_last-requires : goal.store_last-requires
store_last-requires c = let some = c.if-words-eq0.false in
    (omega arith, rw c.if-stride-eq0.true at (sym c.cells_within.ensures ∙ c.if-not-cells_within.false))

pub store_cells-requires-else-stride-eq0 : goal.store_cells-requires-else-stride-eq0
store_cells-requires-else-stride-eq0 c = let some = c.if-words-eq0.false in
    (omega arith, sym c.cells_within.ensures ∙ c.if-not-cells_within.false)

pub returns-then-stride-eq4 : goal.returns-then-stride-eq4
returns-then-stride-eq4 c = (rw c.if-stride-eq4.true c.store_cells.ensures)
    ∙ sym (written-by _ _ _ _ c.if-words-eq0.false true (sym c.cells_within.ensures ∙ c.if-not-cells_within.false))

pub returns-then-stride-eq0 : goal.returns-then-stride-eq0
returns-then-stride-eq0 c = (rw c.if-stride-eq0.true c.store_last.ensures)
    ∙ sym (written-by _ _ _ _ c.if-words-eq0.false true (sym c.cells_within.ensures ∙ c.if-not-cells_within.false))

pub returns-else-stride-eq0 : goal.returns-else-stride-eq0
returns-else-stride-eq0 c = c.store_cells-else-stride-eq0.ensures
    ∙ sym (written-by _ _ _ _ c.if-words-eq0.false true (sym c.cells_within.ensures ∙ c.if-not-cells_within.false))
