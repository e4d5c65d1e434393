use Rattle.text.specs.Number.{ascii}
use Rattle.text.proofs.RoomLaws.{put_then}
use Rattle.lbpdis_output.specs.Said.{packet_line}
use Rattle.lbpdis_output.proofs.put_line.Goals as goal

pub returns : goal.returns
unfolding packet_line ascii
returns c = put_then _ _ _ _
    (put_then _ _ _ _ c.numbered-at.ensures c.numbered-at-2.ensures)
    (rw c.pick.ensures at c.put.ensures)
