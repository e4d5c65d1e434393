use borrow.Author.Tests.{eq-eqb, ne_eqb}
use Rattle.text.specs.Number.{ascii}
use Rattle.text.proofs.RoomLaws.{put_then}
use Rattle.why_output.specs.Wording.{front_text}
use Rattle.why_output.proofs.front.Goals as goal

pub returns-then-place-eq0 : goal.returns-then-place-eq0
unfolding front_text ascii
returns-then-place-eq0 c = rw (eq-eqb _ 0 c.if-place-eq0.true) c.put.ensures

pub returns : goal.returns
unfolding front_text ascii
returns c = rw (ne_eqb _ 0 c.if-place-eq0.false)
    (put_then _ _ _ _
    (put_then _ _ _ _
    (put_then _ _ _ _ c.numbered-at.ensures c.put-at.ensures)
    (rw c.front.ensures at c.bytes-at.ensures))
    c.put-2.ensures)
