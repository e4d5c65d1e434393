use Rattle.cue.specs.Summary.{summary}
use mathlib.Core.Path.{refl}
use Rattle.cue.proofs.packer.Packer.empty.Goals as goal

pub returns : goal.returns
unfolding summary
returns c = refl
