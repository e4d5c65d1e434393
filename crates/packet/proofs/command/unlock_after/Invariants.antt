use Prim.Native.Nat.{◌≤◌, ◌+◌, ◌-◌, ◌*◌}
use mathlib.Core.Path.{◌≡◌}
use lib.ListN.{drop}
use Rattle.lbp16.specs.Space.{status}
use Rattle.packet.specs.Step.{write, unlocked}
use Rattle.packet.specs.Command.{elements}
use Rattle.packet.proofs.command.unlock_after.Given as goal

abbrev pub invariant-loop-i : goal.invariant-loop-i
invariant-loop-i l = record {
  near : l.address ≤ l.used + l.i * 4;
  same : unlocked l.open (elements write status l.count l.used l.step l.data)
      ≡ unlocked l.now_open (elements write status (l.count - l.i) l.address l.step (drop (l.i * 2) l.data));
}
