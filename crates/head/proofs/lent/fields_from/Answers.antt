use mathlib.Core.Path.{refl}
use Rattle.head.specs.Exports.{fields_from}
use Rattle.head.proofs.lent.fields_from.Goals as goal

pub returns : goal.returns
unfolding fields_from
returns c = refl
