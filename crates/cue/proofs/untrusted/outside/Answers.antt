use mathlib.Core.Path.{refl}
use Rattle.cue.specs.Untrusted.{outside_tests}
use Rattle.cue.proofs.untrusted.outside.Goals as goal

pub returns : goal.returns
unfolding outside_tests
returns c = refl
