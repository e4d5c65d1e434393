use mathlib.Core.Path.{sym, ◌∙◌}
use Rattle.text.specs.Number.{ascii}
use Rattle.space_text.proofs.SpaceTextLaws.{space-numbered, space-named}
use Rattle.space_text.proofs.put_space.Goals as goal

pub returns-then-is_absent : goal.returns-then-is_absent
unfolding ascii
returns-then-is_absent c = rw (space-numbered _ (sym c.is_absent.ensures ∙ c.if-is_absent.true)) c.numbered.ensures

pub returns : goal.returns
returns c = rw (space-named _ (sym c.is_absent.ensures ∙ c.if-is_absent.false)) c.put_word.ensures
