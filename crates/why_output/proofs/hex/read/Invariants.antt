use Prim.Native.Nat.{◌-◌}
use lib.ListN.{length}
use Rattle.why_output.proofs.HexLaws.{Reading}
use Rattle.why_output.proofs.hex.read.Given as goal

abbrev pub invariant-loop-i : goal.invariant-loop-i
invariant-loop-i l = Reading l.text l.initial.room l.room l.n l.i

abbrev pub decreases-loop-i : goal.decreases-loop-i
decreases-loop-i l = length l.text - l.i
