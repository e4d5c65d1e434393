use mathlib.Core.Path.{refl}
use Rattle.why_output.specs.Pointed.{by_pointer}
use Rattle.why_output.proofs.pointed.by_pointer.Goals as goal

pub returns : goal.returns
unfolding by_pointer
returns c = rw c.fields_at-f.ensures refl
