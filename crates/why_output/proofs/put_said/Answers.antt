use Rattle.why_output.specs.Wording.{said}
use Rattle.why_output.proofs.put_said.Goals as goal

pub returns : goal.returns
unfolding said
returns c = rw c.explain-r.ensures.explained at c.say.ensures
