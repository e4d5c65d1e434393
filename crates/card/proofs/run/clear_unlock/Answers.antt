use Rattle.packet.specs.Bytes.{bytes_of}
use Rattle.card.specs.Run.{cleared}
use Rattle.card.proofs.run.clear_unlock.Goals as goal

pub returns : goal.returns
unfolding cleared bytes_of
returns c = c.store2.ensures
