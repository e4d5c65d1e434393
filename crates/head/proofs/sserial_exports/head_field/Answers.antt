use mathlib.Core.Path.{refl, ap}
use mathlib.Core.List.{List}
use Prim.Native.Nat.{ℕ}
use Rattle.sserial.specs.Calls.{field_listed, shown}
use Rattle.head.specs.SserialExports.{call_left, shown_in, field_words}
use Rattle.head.proofs.SserialExportLaws.{numbered, other-room, seven_words}
use Rattle.head.proofs.sserial_exports.head_field.Goals as goal

pub returns-then-field-ne7 : goal.returns-then-field-ne7
returns-then-field-ne7 c = rw (other-room _ _ _ c.if-field-ne7.true) (numbered _ c.table_or_40.ensures)

pub returns-in-Ok : goal.returns-in-Ok
unfolding shown_in field_listed shown field_words
returns-in-Ok c = rw
    (seven_words _ _ _ c.if-field-ne7.false, ← c.field-answer.ensures, c.in-Ok.is)
    (ap (λ (l : List ℕ). call_left 0 l) c.put_field.ensures)

pub returns-in-Err : goal.returns-in-Err
unfolding shown_in field_listed
returns-in-Err c = rw (seven_words _ _ _ c.if-field-ne7.false, ← c.field-answer.ensures, c.in-Err.is, c.number.ensures) refl
