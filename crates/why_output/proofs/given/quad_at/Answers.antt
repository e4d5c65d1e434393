use Rattle.why_output.proofs.GivenLaws.{quad_is}
use Rattle.why_output.proofs.given.quad_at.Goals as goal

pub returns : goal.returns
returns c = quad_is _ _ _ _ _ c.pair_at.ensures c.pair_at-2.ensures c.joined.ensures
