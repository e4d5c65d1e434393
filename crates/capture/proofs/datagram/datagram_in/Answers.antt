use native.Mathlib.Omega.{arith}
use Rattle.capture.proofs.FileLaws.{datagram_read}
use Rattle.capture.proofs.datagram.datagram_in.Goals as goal

pub returns : goal.returns
returns c = let n = c.data_bytes.ensures in
    let l = c.length_at.ensures in (
      datagram_read _ _ _ _ _ _ _ _ _ _ _ _ _ _
          c.ip_at-ip.ensures.0
          c.header_bytes.ensures.0
          c.says_ipv4.ensures
          c.is_seen.ensures
          c.is_whole.ensures
          c.quad_at.ensures
          c.quad_at-2.ensures
          c.pair_at.ensures.0
          c.pair_at-2.ensures.0
          l.0
          n.0,
      omega (arith, n.1, l.1),
    )
