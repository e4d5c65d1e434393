use mathlib.Core.Path.{refl, sym, ap, ◌∙◌}
use Rattle.panel.specs.Reading.{reading_listed, refused_by, scaled, product, quotient}
use Rattle.panel.proofs.reading.scaled.Goals as goal

pub returns-then-finite : goal.returns-then-finite
unfolding reading_listed scaled product quotient
returns-then-finite c = rw (sym c.finite.ensures ∙ c.if-finite.true, c.full-most.ensures.0) refl

pub returns-else-finite : goal.returns-else-finite
unfolding reading_listed scaled product quotient
returns-else-finite c = rw (sym c.finite.ensures ∙ c.if-finite.false) (ap refused_by c.at.ensures)
