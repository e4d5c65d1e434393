use Rattle.text.specs.Number.{ascii}
use Rattle.text.proofs.RoomLaws.{put_then}
use Rattle.packet_text.specs.Packet.{moved_text}
use Rattle.packet_text.proofs.listing.put_moved.Goals as goal

pub returns : goal.returns
unfolding moved_text ascii
returns c = put_then _ _ _ _ (put_then _ _ _ _ c.numbered-at.ensures (rw c.pick.ensures at c.put-at.ensures))
    (rw c.pick-2.ensures at c.put.ensures)
