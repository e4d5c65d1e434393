use Rattle.text.specs.Number.{ascii}
use Rattle.text.proofs.RoomLaws.{put_then}
use Rattle.packet_text.specs.Wording.{address_text}
use Rattle.packet_text.proofs.command.address.Goals as goal

pub returns-then-given-n : goal.returns-then-given-n
unfolding address_text ascii
returns-then-given-n c = rw c.if-given-n.true c.put.ensures

pub returns : goal.returns
unfolding address_text ascii
returns c = rw c.if-given-n.false
    (put_then _ _ _ _
    (put_then _ _ _ _ (rw c.pick.ensures at c.put-at.ensures) (rw c.address_digits.ensures at c.hex-at.ensures))
    (rw c.pick-2.ensures at c.put-2.ensures))
