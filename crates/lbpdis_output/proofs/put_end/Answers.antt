use Rattle.text.specs.Number.{ascii}
use Rattle.lbpdis_output.specs.Said.{end_line}
use Rattle.lbpdis_output.proofs.put_end.Goals as goal

pub returns : goal.returns
unfolding end_line ascii
returns c = rw c.pick.ensures at c.put.ensures
