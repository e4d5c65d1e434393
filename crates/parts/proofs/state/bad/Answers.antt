use mathlib.Core.Path.{refl}
use Rattle.parts.specs.State.{bad_numbers}
use Rattle.parts.proofs.state.bad.Goals as goal

pub returns : goal.returns
unfolding bad_numbers
returns c = refl
