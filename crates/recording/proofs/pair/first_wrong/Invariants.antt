use Prim.Native.Nat.{◌+◌}
use mathlib.Core.Path.{◌≡◌}
use lib.ListN.{drop}
use Rattle.recording.specs.Recording.{first_wrong}
use Rattle.recording.proofs.pair.first_wrong.Given as goal

abbrev pub invariant-loop-i : goal.invariant-loop-i
invariant-loop-i l = first_wrong l.expected l.found ≡ l.i + first_wrong (drop l.i l.expected) (drop l.i l.found)
