use Rattle.text.specs.Number.{ascii}
use Rattle.text.proofs.RoomLaws.{put_then}
use Rattle.cuewhy_output.specs.Wording.{place_text}
use Rattle.cuewhy_output.proofs.place.Goals as goal

pub returns : goal.returns
unfolding place_text ascii
returns c = put_then _ _ _ _
    (put_then _ _ _ _ (put_then _ _ _ _ (rw c.number.ensures at c.numbered-at.ensures) c.numbered-at-2.ensures) c.numbered-at-3.ensures)
    c.put.ensures
