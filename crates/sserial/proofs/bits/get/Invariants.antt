use Prim.Native.Nat.{◌-◌, ◌≤◌, ◌^◌, ◌/◌, ◌%◌}
use mathlib.Core.Path.{◌≡◌}
use Rattle.sserial.specs.Layout.{joined}
use Rattle.sserial.proofs.bits.get.Given as goal

abbrev pub invariant-loop-done : goal.invariant-loop-done
invariant-loop-done l = (l.done ≤ l.width) × (l.bits ≡ joined l.words / 2 ^ l.low % 2 ^ l.done)

abbrev pub decreases-loop-done : goal.decreases-loop-done
decreases-loop-done l = l.width - l.done
