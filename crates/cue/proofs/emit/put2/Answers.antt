use Rattle.card.proofs.ElementLaws.{stored_bytes}
use Rattle.cue.proofs.emit.put2.Goals as goal

pub returns : goal.returns
returns c = rw c.to_le_bytes.ensures (stored_bytes 1 c.args.out.now c.args.at c.args.value)
