use mathlib.Core.Path.{◌∙◌}
use Rattle.text.proofs.FindLaws.{before-found}
use Rattle.text.proofs.find.bytes_before.Goals as goal

pub returns : goal.returns
returns c = c.unwrap_or.ensures ∙ before-found _ _ c.first_of.ensures
