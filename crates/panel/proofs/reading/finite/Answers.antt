use lib.Ieee.{nan_bits}
use Rattle.panel.proofs.FloatLaws.{finite_between}
use Rattle.panel.proofs.reading.finite.Goals as goal

pub float_from_bits-result : goal.float_from_bits-result
unfolding nan_bits
float_from_bits-result c = tt

pub float_from_bits-result-2 : goal.float_from_bits-result-2
unfolding nan_bits
float_from_bits-result-2 c = tt

pub returns : goal.returns
returns c = finite_between c.args.x
