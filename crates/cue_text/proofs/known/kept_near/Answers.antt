use mathlib.Core.Path.{refl}
use Rattle.cue_text.specs.Inside.{kept_near}
use Rattle.cue_text.proofs.known.kept_near.Goals as goal

pub returns : goal.returns
unfolding kept_near
returns c = refl
