use native.Mathlib.Omega.{arith}
use Rattle.text.proofs.HexLaws.{byte_put}
use Rattle.text.proofs.number.byte.Goals as goal

pub returns : goal.returns
returns c = byte_put _ _ _ (omega (arith, c.ranges.b)) c.code.ensures c.code-2.ensures
    c.put.ensures
