use mathlib.Core.Path.{sym}
use native.Mathlib.Omega.{arith}
use Rattle.parts.specs.State.{padded}
use Rattle.parts.proofs.StateLaws.{padded-is}
use Rattle.parts.proofs.state.bytes_at.Goals as goal

pub returns : goal.returns
unfolding padded
returns c = sym (padded-is 10 2 c.args.s.now (omega (arith, c.requires)))
