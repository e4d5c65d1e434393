use Rattle.interlock.proofs.PlaceLaws.{whole-write, whole-read}
use Rattle.interlock.proofs.walk.whole.Goals as goal

pub returns-then-f : goal.returns-then-f
returns-then-f c = whole-write _ _ c.requires.0 _ c.header_bytes-header.ensures.0 c.if-f.true

pub returns : goal.returns
returns c = whole-read _ _ c.requires.0 _ c.header_bytes-header.ensures.0 c.if-f.false
