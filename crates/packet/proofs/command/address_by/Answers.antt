use Rattle.packet.proofs.ReachLaws.{address-at}
use Rattle.packet.proofs.command.address_by.Goals as goal

pub returns-then-f : goal.returns-then-f
returns-then-f c = let a = c.args in address-at a.f a.rest.now a.pointer _ c.if-f.true c.pair_at.ensures
