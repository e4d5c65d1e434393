use Prim.Native.Nat.{◌-◌}
use lib.ListN.{length}
use Rattle.cue_text.proofs.WalkLaws.{Walking}
use Rattle.cue_text.proofs.walk.walk_with.Given as goal

abbrev pub invariant-loop-at : goal.invariant-loop-at
invariant-loop-at l = Walking l.text l.initial.out l.at l.t l.table l.out

abbrev pub decreases-loop-at : goal.decreases-loop-at
decreases-loop-at l = length l.text - l.at
