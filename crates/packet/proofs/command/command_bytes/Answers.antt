use native.Mathlib.Omega.{arith}
use Rattle.packet.specs.Command.{command_bytes}
use Rattle.packet.proofs.command.command_bytes.Goals as goal

pub returns : goal.returns
unfolding command_bytes
returns c = omega arith
