use mathlib.Core.Path.{sym}
use Rattle.panel.proofs.ReadingLaws.{other-field, field-of_panel}
use Rattle.panel.proofs.reading.unreadable.Goals as goal

pub returns-then-kind-width : goal.returns-then-kind-width
returns-then-kind-width c = sym (other-field _ _ _ c.if-kind-width.true)

pub returns : goal.returns
returns c = field-of_panel _ _ _ _ c.full.ensures.0 c.if-kind-width.false
