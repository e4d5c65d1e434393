use Rattle.text.specs.Number.{ascii}
use Rattle.packet_text.specs.Wording.{kind_text}
use Rattle.packet_text.proofs.command.kind.Goals as goal

pub returns : goal.returns
unfolding kind_text ascii
returns c = rw (c.pick.ensures, c.pick-write.ensures, c.pick-read.ensures) at c.put.ensures
