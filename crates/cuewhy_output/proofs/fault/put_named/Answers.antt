use Rattle.text.specs.Number.{ascii}
use Rattle.cuewhy_output.specs.Wording.{named_text}
use Rattle.cuewhy_output.proofs.fault.put_named.Goals as goal

pub returns : goal.returns
unfolding named_text ascii
returns c = rw (c.pick.ensures, c.pick-t-2.ensures, c.pick-only.ensures, c.pick-t.ensures) at c.put.ensures
