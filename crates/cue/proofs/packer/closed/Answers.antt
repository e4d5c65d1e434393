use mathlib.Core.Path.{refl}
use Rattle.cue.specs.Summary.{closed_by}
use Rattle.cue.proofs.packer.closed.Goals as goal

pub returns : goal.returns
unfolding closed_by
returns c = refl
