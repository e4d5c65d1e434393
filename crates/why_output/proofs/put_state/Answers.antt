use Rattle.text.specs.Number.{ascii}
use Rattle.why_output.specs.Wording.{state_text}
use Rattle.why_output.proofs.put_state.Goals as goal

pub returns : goal.returns
unfolding state_text ascii
returns c = rw (c.pick.ensures, c.pick-t.ensures) at c.put.ensures
