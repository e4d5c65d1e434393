use Rattle.text.specs.Number.{ascii}
use borrow.Author.Tests.{eq-eqb, ne_eqb}
use Rattle.text.proofs.RoomLaws.{put_then}
use Rattle.why_output.specs.Packets.{all_text}
use Rattle.why_output.proofs.packets.put_all.Goals as goal

pub returns-then-n-eq0 : goal.returns-then-n-eq0
unfolding all_text ascii
returns-then-n-eq0 c = rw (eq-eqb _ 0 c.if-n-eq0.true) c.put.ensures

pub returns : goal.returns
unfolding all_text ascii
returns c = rw (ne_eqb _ 0 c.if-n-eq0.false)
    (put_then _ _ _ _ c.numbered-at.ensures (rw c.pick.ensures at c.put-2.ensures))
