use mathlib.Core.Path.{sym, ◌∙◌}
use Rattle.cue.proofs.UntrustedLaws.{roomy-within, turned-kept, turned-is}
use Rattle.cue.proofs.untrusted.turned.Goals as goal

pub returns-then-loose : goal.returns-then-loose
returns-then-loose c = turned-kept _ _ _ c.loose.ensures c.if-loose.true

pub turned-requires : goal.turned-requires
turned-requires c = (roomy-within _ (sym c.loose.ensures ∙ c.if-loose.false), c.row_of.ensures)

pub returns : goal.returns
returns c = turned-is _ _ _ c.loose.ensures _ c.if-loose.false c.turned.ensures
