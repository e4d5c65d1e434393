use Rattle.lbp16.specs.Space.{info_row, area_row}
use Rattle.lbp16.proofs.space.area_row.Goals as goal

pub returns-then-info : goal.returns-then-info
unfolding info_row area_row
returns-then-info c = rw c.if-info.true c.line.ensures

pub returns-else-info : goal.returns-else-info
unfolding area_row
returns-else-info c = rw c.if-info.false c.row_of.ensures
