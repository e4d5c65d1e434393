use mathlib.Core.Path.{sym, ◌∙◌}
use Rattle.salvage.proofs.SpanLaws.{first-kept, first_skipped}
use Rattle.salvage.proofs.scan.span_at.Goals as goal

pub returns-then-stands_at : goal.returns-then-stands_at
returns-then-stands_at c = first-kept _ _ (sym c.stands_at.ensures ∙ c.if-stands_at.true) c.size_at.ensures

pub returns : goal.returns
returns c = first_skipped _ _ (sym c.stands_at.ensures ∙ c.if-stands_at.false) c.gap_at.ensures
