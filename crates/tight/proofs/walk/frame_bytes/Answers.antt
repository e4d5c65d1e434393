use Rattle.tight.specs.Inside.{frame_takes}
use Rattle.tight.proofs.PartsLaws.{frame-listed}
use Rattle.tight.proofs.walk.frame_bytes.Goals as goal

pub returns-in-End : goal.returns-in-End
unfolding frame_takes
returns-in-End c = frame-listed _ _ _ c.frame_at-frame.ensures c.in-End.is

pub returns-in-Cut : goal.returns-in-Cut
unfolding frame_takes
returns-in-Cut c = frame-listed _ _ _ c.frame_at-frame.ensures c.in-Cut.is

pub returns-in-Unmarked : goal.returns-in-Unmarked
unfolding frame_takes
returns-in-Unmarked c = frame-listed _ _ _ c.frame_at-frame.ensures c.in-Unmarked.is

pub returns-in-Whole : goal.returns-in-Whole
unfolding frame_takes
returns-in-Whole c = frame-listed _ _ _ c.frame_at-frame.ensures c.in-Whole.is
