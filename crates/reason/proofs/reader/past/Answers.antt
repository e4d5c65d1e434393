use native.Mathlib.Omega.{arith}
use Rattle.reason.specs.Reason.{place_after}
use Rattle.reason.proofs.reader.past.Goals as goal

pub returns : goal.returns
unfolding place_after
returns c = omega (arith, c.well_formed.0)
