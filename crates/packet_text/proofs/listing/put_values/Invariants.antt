use Prim.Native.Nat.{◌+◌, ◌-◌, ◌*◌, ◌≤◌}
use mathlib.Core.Path.{◌≡◌}
use mathlib.Core.Bool.{cond}
use lib.ListN.{length, drop}
use Rattle.text.specs.Room.{put_at}
use Rattle.packet_text.specs.Packet.{values_text}
use Rattle.packet_text.proofs.listing.put_values.Given as goal

abbrev pub invariant-loop : goal.invariant-loop
invariant-loop l = (put_at (values_text (cond l.four 4 2) (l.count - l.counter) (drop l.from l.bytes)) l.next l.out ≡ put_at
    (values_text (cond l.four 4 2) l.count l.bytes) l.at l.initial.out)
    × (length l.out ≡ length l.initial.out)
    × (l.next ≤ length l.out)
    × (l.from + 4 * (l.count - l.counter) ≤ 1020)
