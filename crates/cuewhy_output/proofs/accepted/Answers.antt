use Rattle.text.specs.Number.{ascii}
use Rattle.text.proofs.RoomLaws.{put_then}
use Rattle.cuewhy_output.specs.Wording.{accepted_text}
use Rattle.cuewhy_output.proofs.accepted.Goals as goal

pub returns : goal.returns
unfolding accepted_text ascii
returns c = put_then _ _ _ _ c.numbered-at.ensures (rw c.pick.ensures at c.put.ensures)
