use Rattle.text.proofs.RoomLaws.{put_then}
use Rattle.packet_text.specs.Packet.{line_by}
use Rattle.packet_text.proofs.listing.put_line.Goals as goal

pub returns : goal.returns
unfolding line_by
returns c = put_then _ _ _ _ (put_then _ _ _ _ (put_then _ _ _ _ c.put_named-at.ensures c.put_used-at.ensures) c.put_moved-at.ensures)
    c.put_written.ensures
