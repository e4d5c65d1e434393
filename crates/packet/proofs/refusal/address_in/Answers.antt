use Rattle.packet.specs.Command.{header_bytes}
use Rattle.packet.proofs.ReachLaws.{address-at}
use Rattle.packet.proofs.refusal.address_in.Goals as goal

pub pair-requires : goal.pair-requires
unfolding header_bytes
pair-requires c = rw c.if-f.true at c.requires

pub returns-then-f : goal.returns-then-f
returns-then-f c = let a = c.args in address-at a.f a.rest.now a.pointer _ c.if-f.true c.pair.ensures
