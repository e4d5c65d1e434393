use mathlib.Core.Path.{refl}
use Rattle.reason.specs.Reason.{header_at}
use Rattle.reason.proofs.reader.header_from.Goals as goal

pub returns : goal.returns
unfolding header_at
returns c = rw (c.address_used.ensures, c.fields_at-fields.ensures, c.rest-rest.ensures) refl
