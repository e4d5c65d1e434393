use Rattle.capture.proofs.FileLaws.{whole-read}
use Rattle.capture.proofs.datagram.is_whole.Goals as goal

pub returns : goal.returns
returns c = whole-read _ _ _
    c.header_bytes-header.ensures.0 _ _ _
    c.length_at-length.ensures.0
    c.pair_at.ensures.0
    c.pair_at-2.ensures.0
