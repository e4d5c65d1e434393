use borrow.Author.Tests.{eq-eqb, ne_eqb}
use Rattle.text.specs.Number.{ascii}
use Rattle.text.proofs.RoomLaws.{put_then}
use Rattle.cuewhy_output.specs.Wording.{bad_text}
use Rattle.cuewhy_output.proofs.fault.put_bad.Goals as goal

pub returns-then-number-eq23 : goal.returns-then-number-eq23
unfolding bad_text ascii
returns-then-number-eq23 c = rw (← c.number.ensures, ← c.cause_number-cause.ensures, eq-eqb _ _ c.if-number-eq23.true) (put_then _ _ _ _ (put_then _ _ _ _ c.put_record-at.ensures c.put-at.ensures) c.put_element.ensures)

pub returns : goal.returns
unfolding bad_text ascii
returns c = rw (← c.number.ensures, ← c.cause_number-cause.ensures, ne_eqb _ _ c.if-number-eq23.false) (put_then _ _ _ _ (put_then _ _ _ _ c.put_record-at.ensures c.put-at.ensures) c.put_wide.ensures)
