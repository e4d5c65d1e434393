use Rattle.std.proofs.Common.{ℕ, ◌≡◌, ◌+◌, ◌⊎◌, inl, inr, refl, ◌∙◌}
use Rattle.list_reason.specs.Listing.{cause_number}
use Rattle.list_reason.specs.declared.Cause.{Cause as Listed}
use Rattle.cue_text.specs.Fault.{fault, cause_numbered}
use Rattle.cue_text.specs.declared.fault.Cause.{Cause}
use Rattle.cue_text.specs.Inside.{element_fault_numbered}
use Rattle.cue_text.proofs.fault.listed_fault.Goals as goal

-- causes that share a number
first-number : (l : Listed) (i : ℕ) → (l ≡ Listed.AbsentSpace) ⊎ ((l ≡ Listed.UnknownMark) ⊎ (l ≡ Listed.SpareByte))
    → fault Cause.NoSpace i ≡ element_fault_numbered i (cause_number l)
unfolding cause_numbered element_fault_numbered
first-number l i (inl e) = rw e refl
first-number l i (inr (inl e)) = rw e refl
first-number l i (inr (inr e)) = rw e refl

second-number : (l : Listed) (i : ℕ) → (l ≡ Listed.Misaligned) ⊎ ((l ≡ Listed.RecordCut) ⊎ (l ≡ Listed.TooWide))
    → fault Cause.Misaligned (i + 1) ≡ element_fault_numbered i (cause_number l)
unfolding cause_numbered element_fault_numbered
second-number l i (inl e) = rw e refl
second-number l i (inr (inl e)) = rw e refl
second-number l i (inr (inr e)) = rw e refl

pub returns-in-AbsentSpace : goal.returns-in-AbsentSpace
returns-in-AbsentSpace c = c.told.ensures ∙ first-number _ _ c.in-AbsentSpace.is

pub returns-in-Misaligned : goal.returns-in-Misaligned
returns-in-Misaligned c = c.told-in-Misaligned.ensures ∙ second-number _ _ c.in-Misaligned.is

pub returns-in-PastEnd : goal.returns-in-PastEnd
unfolding cause_numbered element_fault_numbered
returns-in-PastEnd c = c.told-in-PastEnd.ensures ∙ rw c.in-PastEnd.is refl

pub returns-in-ReadOnly : goal.returns-in-ReadOnly
unfolding cause_numbered element_fault_numbered
returns-in-ReadOnly c = c.told-in-ReadOnly.ensures ∙ rw c.in-ReadOnly.is refl

pub returns-in-UnlockCell : goal.returns-in-UnlockCell
unfolding cause_numbered element_fault_numbered
returns-in-UnlockCell c = c.told-in-UnlockCell.ensures ∙ rw c.in-UnlockCell.is refl

pub returns-in-PacketCount : goal.returns-in-PacketCount
unfolding cause_numbered element_fault_numbered
returns-in-PacketCount c = c.told-in-PacketCount.ensures ∙ rw c.in-PacketCount.is refl
