use Rattle.packet.specs.Command.{address_used}
use Rattle.interlock.proofs.PlaceLaws.{pointer_used}
use Rattle.interlock.proofs.walk.address.Goals as goal

pub returns-then-f : goal.returns-then-f
unfolding address_used
returns-then-f c = rw c.if-f.true c.pair_at.ensures

pub returns : goal.returns
returns c = pointer_used _ _ _ c.if-f.false _ c.is_info.ensures _ c.of-pointer.ensures
