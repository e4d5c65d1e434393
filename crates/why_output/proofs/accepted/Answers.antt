use Rattle.text.specs.Number.{ascii}
use Rattle.why_output.specs.Wording.{accepted_text}
use Rattle.why_output.proofs.accepted.Goals as goal

pub returns : goal.returns
unfolding accepted_text ascii
returns c = rw c.pick-t.ensures at c.put.ensures
