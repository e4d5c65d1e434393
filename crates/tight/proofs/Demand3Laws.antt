-- Demand 3 of every proposal that is accepted.
use Prim.Native.Nat.{ℕ}
use mathlib.Core.Path.{◌≡◌, refl}
use mathlib.Core.List.{List}
use Rattle.lbp16.specs.Pointer.{fresh}
use Rattle.packet.specs.Step.{Step}
use Rattle.cue.proofs.Relations.{Holds}
use Rattle.cue.proofs.RecordLaws.{records-good}
use Rattle.cue.proofs.RunAll.{run_all}
use Rattle.tight.specs.Tight.{info_step, without_unlocks, accepted, checked}
use Rattle.tight.specs.Demand3.{TightDemand3}
use Rattle.tight.proofs.AcceptedLaws.{any_split, accepted-sized}
use Rattle.tight.proofs.PointerLaws.{NoInfo, fresh-does, any_does}
use Rattle.tight.proofs.MixedLaws.{mixed_without, without_append}
use Rattle.tight.proofs.CheckedLaws.{AcceptedAll, SetAll, accepted-is, no_info}

-- Accepted packets without info commands that use no pointer before they set it hold their steps, unlock writes left out.
pub done-holds : {ps : List (List ℕ)} {ss : List Step} → AcceptedAll ps ss → SetAll ps → NoInfo ss → Holds ps (without_unlocks ss)
unfolding without_unlocks
done-holds AcceptedAll.none SetAll.none i = Holds.none
done-holds (AcceptedAll.more {p = p} {end = end} {ss = us} short judged accepts) (SetAll.more set sets) i =
    let ts = end.steps in
    let (here, later) = any_split info_step ts us i in
    let does =
    fresh-does p ts (record { short = short; set = set; end = end; judged = judged; same = refl; plain = here }) in
    rw without_append
    (Holds.more (any_does p ts does) (mixed_without ts (accepted-sized fresh p end judged)) (done-holds accepts sets later))

-- Demand 3, of every list and every proposal that is accepted for it.
pub tight_demand3 : (list proposal : List ℕ) (count : ℕ) → checked list proposal ≡ accepted count
    → TightDemand3 list proposal count
tight_demand3 list proposal count e =
    let a = accepted-is list proposal count e in
    let hold = rw a.same at (done-holds a.accepts a.set (no_info list proposal count a)) in
    record {
      xs = a.xs;
      list-records = a.list-records;
      packets = a.packets;
      taken-apart = a.sound;
      packet-count = a.packet-count;
      same = run_all a.packets a.xs hold (records-good list a.xs a.list-records);
    }
