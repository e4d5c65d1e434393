use Rattle.text.specs.Number.{ascii}
use Rattle.text.proofs.RoomLaws.{put_then}
use Rattle.packet_text.specs.Packet.{named_text}
use Rattle.packet_text.proofs.listing.put_named.Goals as goal

pub returns : goal.returns
unfolding named_text ascii
returns c = put_then _ _ _ _
    (put_then _ _ _ _ (put_then _ _ _ _ (put_then _ _ _ _ c.numbered-at.ensures c.put-at.ensures) c.kind-at.ensures) c.put-at-2.ensures)
    c.put_space.ensures
