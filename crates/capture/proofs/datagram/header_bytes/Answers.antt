use mathlib.Core.Path.{refl}
use native.Mathlib.Omega.{arith}
use Rattle.capture.specs.Datagram.{header_bytes}
use Rattle.capture.proofs.datagram.header_bytes.Goals as goal

pub returns : goal.returns
unfolding header_bytes
returns c = (rw c.byte_at.ensures.0 refl, omega arith)
