use mathlib.Core.Path.{refl}
use Rattle.cue.specs.Untrusted.{loose_tests}
use Rattle.cue.proofs.untrusted.loose.Goals as goal

pub returns : goal.returns
unfolding loose_tests
returns c = refl
