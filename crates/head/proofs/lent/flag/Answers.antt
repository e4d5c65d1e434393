use mathlib.Core.Path.{◌∙◌}
use Rattle.head.proofs.ExportLaws.{bit_is}
use Rattle.head.proofs.lent.flag.Goals as goal

pub returns : goal.returns
returns c = c.from.ensures ∙ bit_is _
