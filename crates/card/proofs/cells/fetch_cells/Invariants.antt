use Rattle.card.proofs.CellLaws.{Reading}
use Rattle.card.proofs.cells.fetch_cells.Given as goal

abbrev pub invariant-loop-i : goal.invariant-loop-i
invariant-loop-i l = Reading l.store l.from l.stride l.initial.answer l.answer l.at l.i
