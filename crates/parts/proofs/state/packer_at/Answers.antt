use Rattle.parts.specs.State.{pair_at, unopened}
use Rattle.parts.proofs.StateLaws.{packer-none, packer-some}
use Rattle.parts.proofs.state.packer_at.Goals as goal

pub returns-then-size-eq0 : goal.returns-then-size-eq0
unfolding pair_at unopened
returns-then-size-eq0 c = packer-none _ _ _ c.pair_at-size.ensures c.if-size-eq0.true c.empty.ensures

pub returns : goal.returns
unfolding pair_at
returns c = packer-some _ _ _ _ _ c.pair_at-size.ensures c.if-size-eq0.false c.pair_at.ensures c.pair_at-2.ensures
    c.pair_at-3.ensures
