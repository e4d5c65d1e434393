use mathlib.Core.Path.{refl}
use Rattle.panel.specs.Masks.{start_listed}
use Rattle.head.specs.Exports.{number_of, word_left}
use Rattle.head.specs.PanelExports.{export_start}
use Rattle.head.proofs.panel_exports.head_panel_start.Goals as goal

pub returns-in-Ok : goal.returns-in-Ok
unfolding start_listed number_of word_left export_start
returns-in-Ok c = rw (← c.start-answer.ensures, c.in-Ok.is) refl

pub returns-in-Err : goal.returns-in-Err
unfolding start_listed number_of word_left export_start
returns-in-Err c = rw (← c.start-answer.ensures, c.in-Err.is, c.number.ensures) refl
