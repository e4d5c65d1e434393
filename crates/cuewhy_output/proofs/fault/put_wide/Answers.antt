use Rattle.text.specs.Number.{ascii}
use Rattle.cuewhy_output.specs.Wording.{wide_text}
use Rattle.cuewhy_output.proofs.fault.put_wide.Goals as goal

pub returns : goal.returns
unfolding wide_text ascii
returns c = rw c.pick.ensures at c.put.ensures
