use mathlib.Core.Path.{sym, ◌∙◌}
use Rattle.sserial.proofs.ValueLaws.{range-signed, range-plain}
use Rattle.sserial.proofs.value.in_range.Goals as goal

pub returns-then-is_signed : goal.returns-then-is_signed
returns-then-is_signed c = range-signed _ c.requires _ c.half_of-half.ensures _ (sym c.is_signed.ensures ∙ c.if-is_signed.true)

pub returns-else-is_signed : goal.returns-else-is_signed
returns-else-is_signed c = range-plain _ c.requires _ c.half_of-half.ensures _ (sym c.is_signed.ensures ∙ c.if-is_signed.false)
