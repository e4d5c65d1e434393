use mathlib.Core.Path.{refl}
use Rattle.why_output.specs.Pointed.{pointed_to}
use Rattle.why_output.proofs.pointed.pointed_to.Goals as goal

pub returns : goal.returns
unfolding pointed_to
returns c = rw (c.pointed_before.ensures, c.by_pointer.ensures, c.rest.ensures) refl
