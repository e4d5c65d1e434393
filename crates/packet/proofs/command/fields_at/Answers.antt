use mathlib.Core.Path.{◌∙◌}
use Rattle.packet.proofs.command.fields_at.Goals as goal

pub returns : goal.returns
returns c = c.fields_of.ensures ∙ c.word_at.ensures
