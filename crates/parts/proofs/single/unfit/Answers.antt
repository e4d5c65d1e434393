use mathlib.Core.Path.{refl}
use Rattle.parts.specs.State.{pair_at}
use Rattle.parts.specs.Inside.{unfit_tests}
use Rattle.parts.proofs.single.unfit.Goals as goal

pub returns : goal.returns
unfolding unfit_tests pair_at
returns c = rw (
  c.pair_at.ensures,
  c.pair_at-2.ensures,
  c.pair_at-size.ensures,
  c.pair_at-reply.ensures,
  c.pair_at-word.ensures,
) refl
