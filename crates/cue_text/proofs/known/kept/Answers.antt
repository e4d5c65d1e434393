use mathlib.Core.Path.{◌∙◌}
use Rattle.cue_text.specs.Inside.{is_near}
use Rattle.cue_text.proofs.KnownLaws.{near_facts, kept-taken, kept-left}
use Rattle.cue_text.proofs.known.kept.Goals as goal

pub kept_near-requires : goal.kept_near-requires
unfolding is_near
kept_near-requires c = near_facts _ _ _ c.if-at-n.true

pub returns-then-at-n : goal.returns-then-at-n
unfolding is_near
returns-then-at-n c = c.kept_near.ensures ∙ kept-taken _ _ _ _ c.if-at-n.true

pub returns : goal.returns
unfolding is_near
returns c = kept-left _ _ _ _ c.if-at-n.false
