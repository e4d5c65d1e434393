use mathlib.Core.Path.{ap}
use Rattle.recording.specs.Recording.{left, said, said_by, judged}
use Rattle.recording.proofs.judge.Goals as goal

pub returns : goal.returns
unfolding left said said_by judged
returns c = ap said c.judge_in.ensures
