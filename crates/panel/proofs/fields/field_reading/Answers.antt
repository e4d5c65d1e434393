use mathlib.Core.Path.{◌∙◌}
use Rattle.std.proofs.lemmas.Result.{err_from_is_err_and}
use Rattle.sserial.specs.Calls.{field_listed}
use Rattle.panel.specs.Reading.{reading_listed}
use Rattle.panel.proofs.FieldReadingLaws.{of_field, of-refusal}
use Rattle.panel.proofs.fields.field_reading.Goals as goal

pub returns-in_err-f : goal.returns-in_err-f
unfolding field_listed reading_listed
returns-in_err-f c =
    let p = err_from_is_err_and c.from_residual.result c.from_residual.ensures.1 in
    rw (p.1, p.2) (of-refusal _ _ _ _ _ c.in_err-f.ensures)

pub returns : goal.returns
unfolding field_listed
returns c = c.reading.ensures ∙ of_field _ _ _ _ c.in_ok-f.ensures
