use Rattle.sserial.proofs.ValueLaws.{bits-by_half}
use Rattle.sserial.proofs.value.bits_of.Goals as goal

pub returns : goal.returns
returns c = bits-by_half _ c.requires _ c.half_of-half.ensures _
