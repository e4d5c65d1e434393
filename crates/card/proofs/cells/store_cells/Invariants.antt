use Rattle.card.proofs.CellLaws.{Writing}
use Rattle.card.proofs.cells.store_cells.Given as goal

abbrev pub invariant-loop-i : goal.invariant-loop-i
invariant-loop-i l = Writing l.words l.initial.store l.from l.stride l.store l.at l.i
