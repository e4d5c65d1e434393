use Rattle.text.specs.Number.{ascii}
use Rattle.packet_text.specs.Wording.{refused_text}
use Rattle.text.proofs.RoomLaws.{put_then}
use Rattle.packet_text.proofs.put_refused.Goals as goal

pub returns : goal.returns
unfolding refused_text ascii
returns c = put_then _ _ _ _
    (put_then _ _ _ _
    (put_then _ _ _ _ (put_then _ _ _ _ c.numbered-at.ensures c.numbered-at-2.ensures) c.put-at.ensures)
    c.put_rule-at.ensures)
    c.put.ensures
