use Prim.Native.Nat.{◌-◌}
use mathlib.Core.Path.{◌≡◌}
use lib.ListN.{length}
use Rattle.parts.specs.Inside.{Going, start_at}
use Rattle.parts.proofs.take.bytes_taken.Given as goal

abbrev pub invariant-loop-at : goal.invariant-loop-at
invariant-loop-at l = (length l.room ≡ length l.initial.room) × Going (start_at l.initial.kept l.initial.room) l.part l.initial.out l.kept l.written l.at
    l.room l.out

abbrev pub decreases-loop-at : goal.decreases-loop-at
decreases-loop-at l = length l.part - l.at
