use Rattle.text.proofs.RoomLaws.{put_then}
use Rattle.text.specs.Number.{ascii}
use Rattle.why_output.specs.Packets.{shown_text}
use Rattle.why_output.proofs.packets.put_shown.Goals as goal

pub returns : goal.returns
unfolding shown_text ascii
returns c = put_then _ _ _ _ (put_then _ _ _ _ (put_then _ _ _ _ c.numbered-at.ensures c.put-at.ensures)
    c.put_bytes-at.ensures.room_after)
    c.put.ensures
