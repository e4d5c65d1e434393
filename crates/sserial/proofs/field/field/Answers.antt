use mathlib.Core.Path.{sym, ap, ◌∙◌}
use Rattle.lbp16.specs.Answer.{refusal}
use Rattle.std.proofs.lemmas.Result.{err_from_is_err_and}
use Rattle.sserial.specs.Table.{checked_at}
use Rattle.sserial.specs.Calls.{table_listed, field_listed}
use Rattle.sserial.specs.Inside.{fields_met}
use Rattle.sserial.proofs.CheckedLaws.{accepted-checked}
use Rattle.sserial.proofs.FieldLaws.{field-refused, field_found, front_some, front_none}
use Rattle.sserial.proofs.field.field.Goals as goal

pub returns-in_err-count_fields : goal.returns-in_err-count_fields
unfolding table_listed field_listed
returns-in_err-count_fields c =
    let p = err_from_is_err_and c.from_residual.result c.from_residual.ensures.1 in
    rw (p.1, p.2) (field-refused _ _ _ _ _ c.in_err-count_fields.ensures)

pub returns-in-Some : goal.returns-in-Some
unfolding table_listed field_listed checked_at
returns-in-Some c =
    front_some (fields_met c.args.memory.now c.args.table) c.args.index _ (sym c.nth.ensures ∙ c.in-Some.is)
    ∙ field_found _ _ _ (accepted-checked _ _ _ c.in_ok-count_fields.ensures).laid

pub returns-in-None : goal.returns-in-None
unfolding table_listed field_listed checked_at
returns-in-None c =
    ap refusal c.at.ensures ∙ front_none (fields_met c.args.memory.now c.args.table) c.args.index (sym c.nth.ensures ∙ c.in-None.is)
    ∙ field_found _ _ _ (accepted-checked _ _ _ c.in_ok-count_fields.ensures).laid
