use mathlib.Core.Path.{refl}
use Rattle.head.specs.Exports.{bytes_of_fields}
use Rattle.head.proofs.lent.put_fields.Goals as goal

pub returns-in-Some : goal.returns-in-Some
unfolding bytes_of_fields
returns-in-Some c = rw (← c.flag.ensures, ← c.flag-in-Some.ensures, ← c.flag-in-Some-2.ensures, ← c.flag-in-Some-3.ensures) refl
