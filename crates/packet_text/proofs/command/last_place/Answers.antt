use native.Mathlib.Omega.{arith}
use Rattle.packet_text.specs.Wording.{last_place}
use Rattle.packet_text.proofs.command.last_place.Goals as goal

pub returns : goal.returns
unfolding last_place
returns c = omega arith
