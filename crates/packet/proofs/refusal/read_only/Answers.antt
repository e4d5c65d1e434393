use mathlib.Core.Path.{refl}
use Rattle.packet.proofs.ElementLaws.{barred_quick}
use Rattle.packet.proofs.refusal.read_only.Goals as goal

pub returns : goal.returns
returns c p rest e = rw (barred_quick p c.args.f rest, ← e, ← c.requires) refl
