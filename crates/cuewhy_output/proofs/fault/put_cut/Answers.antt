use borrow.Author.Tests.{lt-ltb, le-ltb}
use Rattle.text.specs.Number.{ascii}
use Rattle.text.proofs.RoomLaws.{put_then}
use Rattle.cuewhy_output.specs.Wording.{cut_text}
use Rattle.cuewhy_output.proofs.fault.put_cut.Goals as goal

pub returns-then-rest-lt2 : goal.returns-then-rest-lt2
unfolding cut_text ascii
returns-then-rest-lt2 c = rw (lt-ltb _ _ c.if-rest-lt2.true) c.put.ensures

pub returns : goal.returns
unfolding cut_text ascii
returns c = rw (le-ltb _ _ c.if-rest-lt2.false)
    (put_then _ _ _ _ (rw c.pick-kind.ensures at c.numbered-at.ensures) (rw c.pick.ensures at c.put-2.ensures))
