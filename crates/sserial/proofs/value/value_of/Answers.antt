use Rattle.sserial.proofs.ValueLaws.{value-negative, value-plain}
use Rattle.sserial.proofs.value.value_of.Goals as goal

pub returns-then-negative : goal.returns-then-negative
returns-then-negative c = value-negative _ c.requires.0 _ c.half_of-half.ensures _ _ c.is_signed.ensures c.if-negative.true

pub returns-else-negative : goal.returns-else-negative
returns-else-negative c = value-plain _ c.requires.0 _ c.half_of-half.ensures _ _ c.is_signed.ensures c.if-negative.false
