use Prim.Native.Nat.{◌≤◌}
use mathlib.Core.Path.{◌≡◌}
use lib.ListN.{length, drop}
use Rattle.text.specs.Number.{bytes_of_hex}
use Rattle.text.specs.Room.{put_at}
use Rattle.text.proofs.number.bytes.Given as goal

abbrev pub invariant-loop-b : goal.invariant-loop-b
invariant-loop-b l = (put_at (bytes_of_hex (drop l.b-index l.s)) l.next l.out ≡ put_at (bytes_of_hex l.s) l.at l.initial.out) ×
    (length l.out ≡ length l.initial.out) × (l.next ≤ length l.out)
