use mathlib.Core.Path.{refl, sym, ◌∙◌}
use Rattle.sserial.specs.Inside.{sum_with}
use Rattle.sserial.proofs.count.sum_with.Goals as goal

pub returns-then-stands_in : goal.returns-then-stands_in
unfolding sum_with
returns-then-stands_in c = rw (sym c.stands_in.ensures ∙ c.if-stands_in.true) refl

pub returns-else-stands_in : goal.returns-else-stands_in
unfolding sum_with
returns-else-stands_in c = rw (sym c.stands_in.ensures ∙ c.if-stands_in.false) refl
