use mathlib.Core.Path.{refl}
use Rattle.showcheck_output.specs.Given.{has_option}
use Rattle.showcheck_output.proofs.given.has_option.Goals as goal

pub returns : goal.returns
unfolding has_option
returns c = rw (c.is_option.ensures, c.is_option-2.ensures) refl
