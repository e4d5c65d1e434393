use Rattle.cue.specs.declared.frame.Frame.{Frame}
use Rattle.showcheck_output.specs.Findings.{unanswered}
use Rattle.showcheck_output.proofs.FindingLaws.{none_is}
use Rattle.showcheck_output.proofs.refused.has_none.Goals as goal

pub returns-in-End : goal.returns-in-End
unfolding unanswered
returns-in-End c = none_is _ c.frame_at-frame.ensures Frame.End c.in-End.is

pub returns-in-Cut : goal.returns-in-Cut
unfolding unanswered
returns-in-Cut c = none_is _ c.frame_at-frame.ensures Frame.Cut c.in-Cut.is

pub returns-in-Unmarked : goal.returns-in-Unmarked
unfolding unanswered
returns-in-Unmarked c = none_is _ c.frame_at-frame.ensures Frame.Unmarked c.in-Unmarked.is

pub returns-in-Whole : goal.returns-in-Whole
unfolding unanswered
returns-in-Whole c = none_is _ c.frame_at-frame.ensures (Frame.Whole _) c.in-Whole.is
