use Prim.Native.Nat.{◌-◌}
use Rattle.cuefix_output.proofs.LookLaws.{Walking}
use Rattle.cuefix_output.proofs.lines.last_record.Given as goal

abbrev pub invariant-loop-size : goal.invariant-loop-size
invariant-loop-size l = Walking l.list l.from l.to l.at l.size

abbrev pub decreases-loop-size : goal.decreases-loop-size
decreases-loop-size l = l.to - l.at
