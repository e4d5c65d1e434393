use Prim.Native.Nat.{◌-◌}
use Rattle.card.proofs.BlockLaws.{Moving}
use Rattle.card.proofs.block.move_each.Given as goal

abbrev pub invariant-loop : goal.invariant-loop
invariant-loop g l =
    Moving l.count g.row.W l.src l.from l.from_step l.initial.dst l.to l.to_step l.dst (l.count - l.counter) l.i l.j
