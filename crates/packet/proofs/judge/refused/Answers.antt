use mathlib.Core.Path.{refl}
use Rattle.packet.specs.Verdict.{verdict_listed}
use Rattle.packet.proofs.judge.refused.Goals as goal

pub returns : goal.returns
unfolding verdict_listed
returns c = rw c.at.ensures refl
