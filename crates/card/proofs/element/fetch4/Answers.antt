use native.Mathlib.Omega.{arith}
use Rattle.packet.specs.Bytes.{number}
use Rattle.packet.proofs.PairLaws.{number-next, number-from}
use Rattle.card.proofs.element.fetch4.Goals as goal

pub returns : goal.returns
unfolding number
returns c = let a = c.args in
    omega (
      arith,
      c.from_le_bytes.ensures,
      number-next 3 a.s.now a.at (omega arith),
      number-from 2 a.s.now a.at 1 (omega arith),
      number-from 1 a.s.now a.at 2 (omega arith),
      number-from 0 a.s.now a.at 3 (omega arith),
    )
