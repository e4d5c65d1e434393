use Rattle.text.specs.Number.{ascii}
use Rattle.text.specs.Line.{refused_line}
use Rattle.text.proofs.line.refused.Goals as goal

pub returns : goal.returns
unfolding refused_line ascii
returns c = c.pair.ensures
