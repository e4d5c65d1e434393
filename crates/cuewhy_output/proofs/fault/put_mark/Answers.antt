use Rattle.text.specs.Number.{ascii}
use Rattle.text.proofs.RoomLaws.{put_then}
use Rattle.cuewhy_output.specs.Wording.{mark_text}
use Rattle.cuewhy_output.proofs.fault.put_mark.Goals as goal

pub returns : goal.returns
unfolding mark_text ascii
returns c = put_then _ _ _ _
    (put_then _ _ _ _
    (put_then _ _ _ _ c.put-at.ensures (rw c.mark.ensures at c.bytes-at.ensures))
    c.put-at-2.ensures)
    (rw c.pick.ensures at c.put.ensures)
