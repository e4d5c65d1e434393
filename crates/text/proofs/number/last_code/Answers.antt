use mathlib.Core.Path.{refl}
use Rattle.text.specs.Number.{digit}
use Rattle.text.proofs.number.last_code.Goals as goal

pub returns : goal.returns
unfolding digit
returns c = refl
