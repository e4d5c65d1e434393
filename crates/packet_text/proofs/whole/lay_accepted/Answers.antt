use mathlib.Core.Path.{ap}
use native.Mathlib.Omega.{arith}
use mathlib.Core.List.{List}
use Prim.Native.Nat.{ℕ}
use Rattle.text.specs.Number.{ascii}
use Rattle.text.specs.Room.{filled}
use Rattle.text.proofs.RoomLaws.{put-room}
use Rattle.packet_text.specs.Inside.{laid_at}
use Rattle.packet_text.proofs.PacketLaws.{no_commands, some_commands, none-moved}
use Rattle.packet_text.proofs.whole.lay_accepted.Goals as goal

pub returns-then-packet-eq0 : goal.returns-then-packet-eq0
unfolding ascii laid_at
returns-then-packet-eq0 c = let e = c.requires.1 in
    let none = c.if-packet-eq0.true in (
      rw (← no_commands _ _ e.0 e.1 none) (ap (λ (l : List ℕ). filled 14 l) (put-room _ _ _ c.put.ensures)),
      none-moved _ _ none,
      omega arith,
    )

pub returns : goal.returns
returns c = let e = c.requires.1 in
    let l = c.lay_lines.ensures in
    (rw (some_commands _ _ e.0 e.1 c.if-packet-eq0.false) at l.0, l.1, omega (arith, l.2, c.requires.0))
