use borrow.Author.Tests.{eq-eqb, ne_eqb}
use Rattle.text.specs.Number.{ascii}
use Rattle.lbpdis_output.specs.Said.{unmarked_line}
use Rattle.lbpdis_output.proofs.put_unmarked.Goals as goal

pub returns-then-i-eq0 : goal.returns-then-i-eq0
unfolding unmarked_line ascii
returns-then-i-eq0 c = rw (eq-eqb _ 0 c.if-i-eq0.true) c.put.ensures

pub returns : goal.returns
unfolding unmarked_line ascii
returns c = rw (ne_eqb _ 0 c.if-i-eq0.false) c.put_fault.ensures
