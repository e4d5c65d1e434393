use Rattle.cue.specs.Summary.{framed_at, bytes_of_mark}
use Rattle.cue.proofs.emit.put_frame.Goals as goal

pub returns : goal.returns
unfolding framed_at bytes_of_mark
returns c = c.put4.ensures
