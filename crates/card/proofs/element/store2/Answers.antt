use Rattle.card.proofs.ElementLaws.{stored_bytes}
use Rattle.card.proofs.element.store2.Goals as goal

pub returns : goal.returns
returns c = rw c.to_le_bytes-bytes.ensures (stored_bytes 1 c.args.d.now c.args.at c.args.value)
