use native.Mathlib.Nat.{le_trans}
use Rattle.packet.proofs.ElementLaws.{row_le}
use Rattle.packet.proofs.CommandLaws.{stride_le}
use Rattle.packet.proofs.UnlockLaws.{unlock-next, not_status, unlock-kept}
use mathlib.Core.Path.{sym}
use Rattle.packet.proofs.command.unlocked_next.Goals as goal

pub unlock_after-requires : goal.unlock_after-requires
unlock_after-requires c = rw c.stride_of.ensures (le_trans (stride_le _) (row_le _))

pub returns-then-f : goal.returns-then-f
returns-then-f c = unlock-next _ _ _ _ _ _ _
    c.if-f.true
    c.header_bytes-h.ensures.0
    c.stride_of.ensures
    c.unlock_after.ensures

pub returns-else-f : goal.returns-else-f
returns-else-f c = sym (unlock-kept _ _ _ _ _ _ _ (not_status _ c.if-f.false))
