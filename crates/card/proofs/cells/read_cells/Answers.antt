use mathlib.Core.Path.{sym, ◌∙◌}
use mathlib.Core.Bool.{true, false}
use native.Mathlib.Omega.{arith}
use Rattle.card.proofs.CellLaws.{read_none, read_by}
use Rattle.card.proofs.cells.read_cells.Goals as goal

pub returns-then-answer-eq0 : goal.returns-then-answer-eq0
returns-then-answer-eq0 c = read_none _ _ _ _ c.if-answer-eq0.true

pub returns-then-not-cells_within : goal.returns-then-not-cells_within
returns-then-not-cells_within c = sym (read_by _ _ _ _ c.if-answer-eq0.false false (sym c.cells_within.ensures ∙ c.if-not-cells_within.true))

pub fetch_cells-requires : goal.fetch_cells-requires
fetch_cells-requires c = let some = c.if-answer-eq0.false in
    (omega arith, rw c.if-stride-eq4.true at (sym c.cells_within.ensures ∙ c.if-not-cells_within.false))

pub fetch_cells-requires-else-stride-eq4 : goal.fetch_cells-requires-else-stride-eq4
fetch_cells-requires-else-stride-eq4 c = let some = c.if-answer-eq0.false in
    (omega arith, sym c.cells_within.ensures ∙ c.if-not-cells_within.false)

pub returns-then-stride-eq4 : goal.returns-then-stride-eq4
returns-then-stride-eq4 c = (rw c.if-stride-eq4.true c.fetch_cells.ensures)
    ∙ sym (read_by _ _ _ _ c.if-answer-eq0.false true (sym c.cells_within.ensures ∙ c.if-not-cells_within.false))

pub returns-else-stride-eq4 : goal.returns-else-stride-eq4
returns-else-stride-eq4 c = c.fetch_cells-else-stride-eq4.ensures
    ∙ sym (read_by _ _ _ _ c.if-answer-eq0.false true (sym c.cells_within.ensures ∙ c.if-not-cells_within.false))
