use mathlib.Core.Path.{refl}
use Rattle.capture.specs.Datagram.{length_at}
use Rattle.capture.proofs.datagram.length_at.Goals as goal

pub returns : goal.returns
unfolding length_at
returns c = (rw (c.pair_at.ensures.0, c.header_bytes.ensures.0) refl, c.pair_at.ensures.1)
