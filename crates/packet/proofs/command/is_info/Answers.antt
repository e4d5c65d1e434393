use mathlib.Core.Path.{sym}
use Rattle.packet.proofs.ElementLaws.{info-kind}
use Rattle.packet.proofs.command.is_info.Goals as goal

pub returns : goal.returns
returns c = sym (info-kind _)
