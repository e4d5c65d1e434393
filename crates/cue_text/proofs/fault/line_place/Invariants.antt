use Prim.Native.Nat.{◌-◌}
use Rattle.cue_text.proofs.FaultLaws.{Seeking}
use Rattle.cue_text.proofs.fault.line_place.Given as goal

abbrev pub invariant-loop-k : goal.invariant-loop-k
invariant-loop-k l = Seeking l.text l.line l.at l.k

abbrev pub decreases-loop-k : goal.decreases-loop-k
decreases-loop-k l = l.line - l.k
