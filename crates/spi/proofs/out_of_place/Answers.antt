use Rattle.packet.specs.Rules.{misaligned}
use Rattle.lbp16.specs.Space.{row}
use Rattle.spi.proofs.SpiLaws.{past_quick}
use Rattle.spi.proofs.out_of_place.Goals as goal

pub returns : goal.returns
unfolding misaligned row
returns c = λ words. rw (past_quick, c.span_of.ensures.0)
