use Rattle.spi.proofs.SpiLaws.{first_or_none}
use Rattle.spi.proofs.first_word.Goals as goal

pub returns : goal.returns
returns c = rw (c.unwrap_or.ensures, c.copied.ensures, c.first.ensures.value) (first_or_none c.args.words.now)
