use native.Mathlib.Omega.{arith}
use Rattle.parts.specs.State.{pair_at}
use Rattle.parts.proofs.StateLaws.{kept-is}
use Rattle.parts.proofs.state.load.Goals as goal

pub overflow_cast-result : goal.overflow_cast-result
overflow_cast-result c = omega (arith, c.shared_slice_known-1.given 0)

pub overflow_cast-result-2 : goal.overflow_cast-result-2
overflow_cast-result-2 c = omega (arith, c.shared_slice_known-2-1.given 1)

pub returns : goal.returns
unfolding pair_at
returns c = kept-is _ _ _ _ _ c.bytes_at.ensures c.pair_at.ensures
    c.pair_at-2.ensures c.packer_at.ensures
