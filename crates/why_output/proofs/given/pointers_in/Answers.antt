use mathlib.Core.Path.{refl}
use Rattle.why_output.specs.Given.{pointers_in}
use Rattle.why_output.proofs.given.pointers_in.Goals as goal

pub returns : goal.returns
unfolding pointers_in
returns c = rw (c.spaces_in.ensures, c.spaces_in-2.ensures) refl
