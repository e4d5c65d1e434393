use Rattle.why_output.proofs.RoomLaws.{whole-left}
use mathlib.Core.Path.{◌∙◌}
use borrow.Author.Rules.{rules}
use Rattle.why_output.proofs.whole.Goals as goal

pub returns : goal.returns
returns c = c.written.ensures ∙ whole-left _ _ _ _ _ (search rules)
