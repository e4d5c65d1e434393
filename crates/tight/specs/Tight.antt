-- A proposed output for a cue list, and when it is accepted.
use Rattle.std.specs.Prelude.{ℕ, List, [], ◌∷◌, ◌++◌, Bool, true, false, ◌&&◌, ◌||◌, cond, length, eqb, ltb, Result, Ok, Err}
use Rattle.std.specs.Bool.{beq}
use Rattle.text.specs.Find.{same_bytes}
use Rattle.lbp16.specs.Answer.{rule_number}
use Rattle.lbp16.specs.Space.{space_number}
use Rattle.lbp16.specs.Pointer.{fresh}
use Rattle.packet.specs.Bytes.{number}
use Rattle.packet.specs.Step.{Kind, Step, is_info, is_write, names_unlock}
use Rattle.packet.specs.Rules.{any_step}
use Rattle.packet.specs.Command.{limit}
use Rattle.packet.specs.Judge.{judge}
use Rattle.packet.specs.Judge
use Rattle.cue.specs.Records.{Listed, records_of}
use Rattle.cue.specs.Records
use Rattle.cue.specs.Output.{Apart, unsound, frames, apart}
use Rattle.cue.specs.Compile.{output}
use Rattle.tight.specs.Unset.{uses_unset}
use Rattle.tight.specs.declared.Fault.{Fault}

-- The steps of a packet that is let through; `none` of any other packet.
pub data Doing : Type 0 where
  none : Doing
  steps : List Step → Doing

unfoldable pub done_by : Judge.Verdict → Doing
done_by (Judge.refused n place) = none
done_by (Judge.accepted c) = steps c.steps

-- any info command is rejected
unfoldable pub info_step : Step → Bool
info_step s = is_info s.kind

unfoldable pub plain_only : Doing → Doing
plain_only none = none
plain_only (steps ss) = cond (any_step info_step ss) none (steps ss)

-- The packet has at most 1,472 bytes and is accepted, from a fresh card's pointers; and no space's pointer is used in it before
-- it sets it, so that it is accepted from all pointers, with the same steps.
unfoldable pub packet_does : List ℕ → Doing
packet_does packet = cond (ltb limit (length packet) || uses_unset packet) none (plain_only (done_by (judge fresh packet)))

unfoldable pub both : Doing → Doing → Doing
both none d = none
both (steps ss) none = none
both (steps ss) (steps ts) = steps (ss ++ ts)

-- the steps of all packets, joined
unfoldable pub packets_do : List (List ℕ) → Doing
packets_do [] = steps []
packets_do (p ∷ ps) = both (packet_does p) (packets_do ps)

-- a write of 0x5A02 to the unlock cell
unfoldable pub unlocks : Step → Bool
unlocks s = is_write s.kind && names_unlock s && eqb (number s.bytes) 0x5A02

unfoldable pub without_unlocks : List Step → List Step
without_unlocks [] = []
without_unlocks (s ∷ ss) = cond (unlocks s) (without_unlocks ss) (s ∷ without_unlocks ss)

unfoldable pub same_kind : Kind → Kind → Bool
same_kind k l = beq (is_write k) (is_write l) && beq (is_info k) (is_info l)

unfoldable pub same_step : Step → Step → Bool
same_step s x =
    same_kind s.kind x.kind
    && eqb (space_number s.space) (space_number x.space)
    && eqb s.address x.address
    && same_bytes s.bytes x.bytes

unfoldable pub same_steps : List Step → List Step → Bool
same_steps [] [] = true
same_steps [] (x ∷ xs) = false
same_steps (s ∷ ss) [] = false
same_steps (s ∷ ss) (x ∷ xs) = same_step s x && same_steps ss xs

-- What the checker says: accepted with so many packets, rejected, or the list's own refusal.
pub data Checked : Type 0 where
  accepted : ℕ → Checked
  rejected : Checked
  refused : ℕ → ℕ → Checked

-- The steps, unlock writes of 0x5A02 apart, are the records in order. So any other write to the unlock cell is rejected, since
-- no record is one.
unfoldable pub steps_checked : Doing → List Step → ℕ → Checked
steps_checked none xs count = rejected
steps_checked (steps ss) xs count = cond (same_steps (without_unlocks ss) xs) (accepted count) rejected

unfoldable pub frames_checked : Apart → List Step → Checked
frames_checked unsound xs = rejected
frames_checked (frames ps) xs = steps_checked (packets_do ps) xs (length ps)

-- no longer than the packing rule's output
unfoldable pub proposal_checked : Listed → List ℕ → Checked
proposal_checked (Records.refused n i) proposal = refused n i
proposal_checked (Records.records xs) proposal =
    cond (ltb (length (output xs)) (length proposal)) rejected (frames_checked (apart proposal) xs)

unfoldable pub checked : List ℕ → List ℕ → Checked
checked list proposal = proposal_checked (records_of list) proposal

-- the checker's answer: its values, for each case
unfoldable pub check_listed : Result ℕ Fault → Checked
check_listed (Ok n) = accepted n
check_listed (Err Fault.Rejected) = rejected
check_listed (Err (Fault.List r)) = refused (rule_number r.rule) r.place
