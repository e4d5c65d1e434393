use Rattle.capture.specs.File.{number_in}
use Rattle.capture.proofs.file.number_in.Goals as goal

pub returns-then-big : goal.returns-then-big
unfolding number_in
returns-then-big c = rw c.if-big.true c.quad_at.ensures

pub returns-else-big : goal.returns-else-big
unfolding number_in
returns-else-big c = rw c.if-big.false c.low_quad_at.ensures
