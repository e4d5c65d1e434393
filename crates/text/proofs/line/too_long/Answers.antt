use Rattle.text.specs.Number.{ascii}
use Rattle.text.specs.Line.{too_long_line}
use Rattle.text.proofs.line.too_long.Goals as goal

pub returns : goal.returns
unfolding ascii too_long_line
returns c = c.put.ensures
