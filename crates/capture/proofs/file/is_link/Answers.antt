use mathlib.Core.Path.{refl}
use Rattle.capture.specs.File.{is_link}
use Rattle.capture.proofs.file.is_link.Goals as goal

pub returns : goal.returns
unfolding is_link
returns c = refl
