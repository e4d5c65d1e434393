use Rattle.text.specs.Number.{ascii}
use Rattle.text.proofs.RoomLaws.{put_then}
use Rattle.packet_text.specs.Wording.{fields_text}
use Rattle.packet_text.proofs.command.fields.Goals as goal

pub returns : goal.returns
unfolding fields_text ascii
returns c = put_then _ _ _ _
    (put_then _ _ _ _
    (put_then _ _ _ _ (put_then _ _ _ _ c.kind-at.ensures c.numbered-at.ensures)
    (rw c.element_bytes.ensures at c.numbered-at-2.ensures))
    (rw c.pick-steps.ensures at c.put-at.ensures))
    c.numbered.ensures
