use Rattle.panel.proofs.FloatLaws.{finite_bits}
use Rattle.panel.proofs.reading.finite_bits.Goals as goal

pub returns : goal.returns
returns c = finite_bits c.args.bits
