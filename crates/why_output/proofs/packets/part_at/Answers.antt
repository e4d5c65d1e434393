use mathlib.Core.Path.{◌∙◌}
use Rattle.why_output.proofs.PacketsLaws.{part_end, part_cut, part-unmarked, part-whole}
use Rattle.why_output.proofs.packets.part_at.Goals as goal

pub returns-in-End : goal.returns-in-End
returns-in-End c = part_end _ _ _ _ c.frame_at-frame.ensures c.in-End.is

pub returns-in-Cut : goal.returns-in-Cut
returns-in-Cut c = part_cut _ _ _ _ c.frame_at-frame.ensures c.in-Cut.is

pub returns-in-Unmarked : goal.returns-in-Unmarked
returns-in-Unmarked c = part-unmarked _ _ _ _ c.frame_at-frame.ensures c.in-Unmarked.is

pub returns-in-Whole : goal.returns-in-Whole
returns-in-Whole c = c.ran_at.ensures ∙ part-whole _ _ _ _ c.frame_at-frame.ensures _ c.in-Whole.is
