use mathlib.Core.Path.{◌∙◌}
use Rattle.sserial.specs.Calls.{table_listed}
use Rattle.head.proofs.SserialExportLaws.{or_40, or_refused_lem}
use Rattle.head.proofs.sserial_exports.table_or_40.Goals as goal

pub returns-in-Ok : goal.returns-in-Ok
unfolding table_listed
returns-in-Ok c = or_40 _ _ _ (rw c.in-Ok.is at c.count_fields-answer.ensures)

pub returns-in-Err : goal.returns-in-Err
unfolding table_listed
returns-in-Err c = c.number.ensures ∙ or_refused_lem _ _ _ (rw c.in-Err.is at c.count_fields-answer.ensures)
