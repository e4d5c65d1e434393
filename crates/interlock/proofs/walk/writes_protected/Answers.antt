use mathlib.Core.Path.{refl, ◌∙◌}
use Rattle.packet.proofs.ElementLaws.{row_le}
use Rattle.interlock.proofs.BlockLaws.{command-none, command-block}
use Rattle.interlock.proofs.walk.writes_protected.Goals as goal

pub returns-then-f : goal.returns-then-f
returns-then-f c = λ p rest e. command-none _ _ p rest c.if-f.true

pub span-requires : goal.span-requires
span-requires c = rw c.row_of-row.ensures (row_le _)

pub returns : goal.returns
returns c = λ p rest e.
    let row = c.row_of-row.ensures in
    command-block _ _ p rest c.if-f.false _
    (c.touches.ensures ∙ rw (← e, ← row, ← c.span.ensures.0) refl)
