use mathlib.Core.Path.{refl}
use Rattle.capture.specs.File.{is_magic}
use Rattle.capture.proofs.file.is_magic.Goals as goal

pub returns : goal.returns
unfolding is_magic
returns c = refl
