use mathlib.Core.Path.{refl, sym, ap, ◌∙◌}
use Rattle.panel.specs.Reading.{reading_listed}
use Rattle.panel.proofs.ScaleLaws.{shown-number}
use Rattle.head.specs.PanelExports.{reading_number, bits_left, export_reading}
use Rattle.head.proofs.panel_exports.head_panel_reading.Goals as goal

pub float_to_bits-reading_bits : goal.float_to_bits-reading_bits
unfolding reading_listed
float_to_bits-reading_bits c = shown-number _ _ _ _ _ _ (sym c.reading-answer.ensures ∙ ap reading_listed c.in-Ok.is)

pub returns-in-Ok : goal.returns-in-Ok
unfolding reading_listed reading_number bits_left export_reading
returns-in-Ok c = rw (← c.reading-answer.ensures, c.in-Ok.is) refl

pub returns-in-Err : goal.returns-in-Err
unfolding reading_listed reading_number bits_left export_reading
returns-in-Err c = rw (← c.reading-answer.ensures, c.in-Err.is, c.number.ensures) refl
