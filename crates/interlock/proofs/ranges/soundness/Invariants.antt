use mathlib.Core.Path.{◌≡◌}
use Prim.Native.Nat.{◌*◌}
use lib.ListN.{drop}
use Rattle.interlock.specs.Guard.{sound_from, soundness}
use Rattle.interlock.proofs.ranges.soundness.Given as goal

abbrev pub invariant-loop-index : goal.invariant-loop-index
invariant-loop-index l = soundness l.guard ≡ sound_from l.index (drop (2 * l.index) l.guard)
