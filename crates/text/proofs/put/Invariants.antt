use Prim.Native.Nat.{◌+◌, ◌≤◌}
use mathlib.Core.Path.{◌≡◌}
use lib.ListN.{length, drop}
use Rattle.text.specs.Room.{put_at}
use Rattle.text.proofs.put.Given as goal

abbrev pub invariant-loop-i : goal.invariant-loop-i
invariant-loop-i l = (put_at (drop l.i l.text) (l.from + l.i) l.out ≡ put_at l.text l.at l.initial.out) × (length l.out ≡ length l.initial.out) × (l.i ≤ l.n)
