use Rattle.showcheck_output.proofs.FindingLaws.{end_is, whole-within}
use Rattle.showcheck_output.specs.Findings.{frame_end}
use Rattle.cue.specs.declared.frame.Frame.{Frame}
use native.Mathlib.Omega.{arith}
use Rattle.showcheck_output.proofs.replies.frame_end.Goals as goal

pub overflow_add-result : goal.overflow_add-result
overflow_add-result c = let w = whole-within _ c.frame_at-frame.ensures _ c.in-Whole.is in omega arith

pub returns-in-End : goal.returns-in-End
unfolding frame_end
returns-in-End c = end_is _ c.frame_at-frame.ensures Frame.End c.in-End.is

pub returns-in-Cut : goal.returns-in-Cut
unfolding frame_end
returns-in-Cut c = end_is _ c.frame_at-frame.ensures Frame.Cut c.in-Cut.is

pub returns-in-Unmarked : goal.returns-in-Unmarked
unfolding frame_end
returns-in-Unmarked c = end_is _ c.frame_at-frame.ensures Frame.Unmarked c.in-Unmarked.is

pub returns-in-Whole : goal.returns-in-Whole
unfolding frame_end
returns-in-Whole c = end_is _ c.frame_at-frame.ensures (Frame.Whole _) c.in-Whole.is
