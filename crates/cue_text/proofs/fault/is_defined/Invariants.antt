use Prim.Native.Nat.{◌-◌}
use Rattle.cue_text.proofs.FaultLaws.{Looking}
use Rattle.cue_text.proofs.fault.is_defined.Given as goal

abbrev pub invariant-loop-k : goal.invariant-loop-k
invariant-loop-k l = Looking l.name l.text l.line l.at l.k

abbrev pub decreases-loop-k : goal.decreases-loop-k
decreases-loop-k l = l.line - l.k
