use Prim.Native.Nat.{◌-◌}
use mathlib.Core.Path.{◌≡◌}
use lib.ListN.{length}
use Rattle.parts.specs.Inside.{Runs}
use Rattle.parts.proofs.take.records_joined.Given as goal

abbrev pub invariant-loop-at : goal.invariant-loop-at
invariant-loop-at l = (length l.room ≡ length l.initial.room) × Runs l.initial.packer l.initial.index l.part l.initial.room
    (record { taken = l.at; packer = l.packer; index = l.index }) l.room

abbrev pub decreases-loop-at : goal.decreases-loop-at
decreases-loop-at l = length l.part - l.at
