use Rattle.capture.proofs.FileLaws.{seen_read}
use Rattle.capture.proofs.datagram.is_seen.Goals as goal

pub returns : goal.returns
returns c = seen_read _ _ _
    c.header_bytes.ensures.0 _ _ _
    c.byte_at-first.ensures.0
    c.byte_at.ensures.0
    c.pair_at.ensures.0
