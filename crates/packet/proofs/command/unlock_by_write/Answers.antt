use mathlib.Core.Path.{ap}
use lib.Dec.{eqb}
use borrow.Author.Tests.{ne_eqb}
use Rattle.packet.specs.Step.{unlocked_after, names_unlock, is_status, is_write}
use Rattle.packet.proofs.command.unlock_by_write.Goals as goal

pub returns-then-address-eq26 : goal.returns-then-address-eq26
unfolding unlocked_after names_unlock is_status is_write
returns-then-address-eq26 c = rw c.if-address-eq26.true (ap (λ n. eqb n 0x5A02) c.pair_at.ensures)

pub returns-else-address-eq26 : goal.returns-else-address-eq26
unfolding unlocked_after names_unlock is_status is_write
returns-else-address-eq26 c = simp (ne_eqb _ _ c.if-address-eq26.false)
