use mathlib.Core.Path.{◌∙◌}
use Rattle.recording.proofs.PairLaws.{pair_end, pair-cut, pair-unmarked, pair-within, pair-whole}
use Rattle.recording.proofs.pair.pair_at.Goals as goal

pub whole_at-requires : goal.whole_at-requires
whole_at-requires c = let a = c.args in
    (pair-within a.rest.now a.store.now a.p a.room.now _ c.frame_at-frame.ensures _ c.in-Whole.is, c.requires)

pub returns-in-End : goal.returns-in-End
returns-in-End c = pair_end _ _ _ _ _ c.frame_at-frame.ensures c.in-End.is

pub returns-in-Cut : goal.returns-in-Cut
returns-in-Cut c = pair-cut _ _ _ _ _ c.frame_at-frame.ensures c.in-Cut.is

pub returns-in-Unmarked : goal.returns-in-Unmarked
returns-in-Unmarked c = pair-unmarked _ _ _ _ _ c.frame_at-frame.ensures c.in-Unmarked.is

pub returns-in-Whole : goal.returns-in-Whole
returns-in-Whole c = c.whole_at.ensures ∙ pair-whole _ _ _ _ _ c.frame_at-frame.ensures _ c.in-Whole.is
