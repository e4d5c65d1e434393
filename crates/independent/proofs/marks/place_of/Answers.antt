use Rattle.independent.specs.Inside.{place_by}
use Rattle.independent.proofs.marks.place_of.Goals as goal

pub returns : goal.returns
unfolding place_by
returns c = simp c.row_of-row.ensures
