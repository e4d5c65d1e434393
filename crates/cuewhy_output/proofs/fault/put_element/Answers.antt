use borrow.Author.Tests.{eq-eqb, ne_eqb}
use Rattle.text.specs.Number.{ascii}
use Rattle.text.proofs.RoomLaws.{put_then}
use Rattle.cuewhy_output.specs.Wording.{element_text}
use Rattle.cuewhy_output.proofs.fault.put_element.Goals as goal

pub returns-then-cause-eq2 : goal.returns-then-cause-eq2
unfolding element_text ascii
returns-then-cause-eq2 c = rw (eq-eqb _ _ c.if-cause-eq2.true, ← c.row_of-row.ensures) c.numbered.ensures

pub returns-then-cause-eq3 : goal.returns-then-cause-eq3
unfolding element_text ascii
returns-then-cause-eq3 c = rw (ne_eqb _ _ c.if-cause-eq2.false, eq-eqb _ _ c.if-cause-eq3.true, ← c.row_of-row.ensures)
    (put_then _ _ _ _ c.numbered-at.ensures c.put.ensures)

pub returns : goal.returns
unfolding element_text
returns c = rw (ne_eqb _ _ c.if-cause-eq2.false, ne_eqb _ _ c.if-cause-eq3.false) c.put_named.ensures
