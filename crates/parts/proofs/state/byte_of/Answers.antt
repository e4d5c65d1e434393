use Rattle.parts.proofs.StateLaws.{byte-there, byte-behind}
use Rattle.parts.proofs.state.byte_of.Goals as goal

pub returns-then-i-k : goal.returns-then-i-k
returns-then-i-k c = byte-there _ _ _ c.if-i-k.true

pub returns : goal.returns
returns c = byte-behind _ _ _ c.if-i-k.false
