use Rattle.capture.proofs.FileLaws.{says-read}
use Rattle.capture.proofs.datagram.says_ipv4.Goals as goal

pub returns : goal.returns
returns c = says-read _ _ _ _ _ _ _ _
    c.type_at-ethernet.ensures.0
    c.number_in.ensures
    c.pair_at.ensures.0
    c.pair_at-2.ensures.0
    c.pair_at-3.ensures.0
