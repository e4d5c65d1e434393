use Rattle.text.specs.Number.{ascii}
use Rattle.lbpdis_output.specs.Said.{cut_line}
use Rattle.lbpdis_output.proofs.put_cut.Goals as goal

pub returns : goal.returns
unfolding cut_line ascii
returns c = c.put_fault.ensures
