use Rattle.text.specs.Number.{ascii}
use Rattle.text.proofs.RoomLaws.{put_then}
use Rattle.cuewhy_output.specs.Wording.{record_text}
use Rattle.cuewhy_output.proofs.WordingLaws.{tail_none, tail-some}
use borrow.Author.Tests.{not-true, not-false}
use Rattle.cuewhy_output.proofs.shown.put_record.Goals as goal

pub returns-then-not-r : goal.returns-then-not-r
unfolding record_text ascii
returns-then-not-r c = rw (tail_none _ _ _ (not-true _ c.if-not-r.true))
    (put_then _ _ _ _
    (put_then _ _ _ _
    (put_then _ _ _ _ (rw c.pick.ensures at c.put-at.ensures) c.put_space-at.ensures)
    c.put-at-2.ensures)
    c.hex-at.ensures)

pub returns : goal.returns
unfolding record_text ascii
returns c = rw (tail-some _ _ _ (not-false _ c.if-not-r.false))
    (put_then _ _ _ _
    (put_then _ _ _ _
    (put_then _ _ _ _
    (put_then _ _ _ _ (rw c.pick.ensures at c.put-at.ensures) c.put_space-at.ensures)
    c.put-at-2.ensures)
    c.hex-at.ensures)
    c.put_value.ensures)
