use Rattle.text.specs.Number as number
use Rattle.input.proofs.cannot_read.Goals as goal

pub returns : goal.returns
unfolding number.ascii
returns g c = c.write_all.ensures
