use Rattle.card.specs.Run.{bad_state}
use Rattle.card.proofs.check.bad_state.Goals as goal

pub returns : goal.returns
unfolding bad_state
returns c = simp c.above_size.ensures
