use native.Mathlib.Omega.{arith}
use mathlib.Core.Path.{sym}
use Rattle.packet.proofs.PairLaws.{number-none, pair_one, pair-two}
use Rattle.packet.proofs.bytes.pair_at.Goals as goal

pub returns-then-s-at : goal.returns-then-s-at
returns-then-s-at c = sym (number-none 2 _ _ c.if-s-at.true)

pub returns-then-s-next : goal.returns-then-s-next
returns-then-s-next c = sym (pair_one _ _ (omega arith) c.if-s-next.true)

pub returns-else-s-next : goal.returns-else-s-next
returns-else-s-next c = omega (arith, c.from_le_bytes.ensures, pair-two c.args.s.now c.args.at c.if-s-next.false)
