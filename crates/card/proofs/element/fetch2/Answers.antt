use native.Mathlib.Omega.{arith}
use Rattle.packet.proofs.PairLaws.{pair-two}
use Rattle.card.proofs.element.fetch2.Goals as goal

pub returns : goal.returns
returns c = omega (arith, c.from_le_bytes.ensures, pair-two c.args.s.now c.args.at (omega arith))
