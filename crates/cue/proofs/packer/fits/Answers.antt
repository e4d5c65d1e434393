use mathlib.Core.Path.{refl}
use Rattle.cue.specs.Summary.{fits}
use Rattle.cue.proofs.packer.fits.Goals as goal

pub returns : goal.returns
unfolding fits
returns c = refl
