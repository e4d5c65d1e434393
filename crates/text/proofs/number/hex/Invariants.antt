use Prim.Native.Nat.{◌≤◌}
use mathlib.Core.Path.{◌≡◌}
use lib.ListN.{length}
use Rattle.text.specs.Number.{hexadecimal}
use Rattle.text.specs.Room.{put_at}
use Rattle.text.proofs.number.hex.Given as goal

abbrev pub invariant-loop-k : goal.invariant-loop-k
invariant-loop-k l = (put_at (hexadecimal l.k l.n) l.next l.out ≡ put_at (hexadecimal l.digits l.n) l.at l.initial.out) ×
    (length l.out ≡ length l.initial.out) × (l.next ≤ length l.out)
