-- What it means that a proposal is accepted.
use Prim.Native.Nat.{ℕ, ◌≤◌}
use mathlib.Core.Path.{◌≡◌, refl, sym, ◌∙◌}
use mathlib.Core.List.{List, [], ◌∷◌, ◌++◌}
use mathlib.Core.Bool.{Bool, true, false, cond}
use native.Mathlib.Omega.{arith}
use lib.Dec.{ltb}
use lib.ListN.{length}
use borrow.Author.Tests.{ltb-false, le-ltb}
use Rattle.lbp16.specs.Pointer.{fresh}
use Rattle.packet.specs.Step.{Step}
use Rattle.packet.specs.Rules.{any_step}
use Rattle.packet.specs.Command.{limit}
use Rattle.packet.specs.Judge.{Carried, judge}
use Rattle.packet.specs.Judge
use Rattle.cue.specs.Records.{Listed, records_of}
use Rattle.cue.specs.Records
use Rattle.cue.specs.Output.{Apart, unsound, frames, apart}
use Rattle.cue.specs.Compile.{output}
use Rattle.cue.proofs.Relations.{Good}
use Rattle.cue.proofs.RecordLaws.{records-good}
use Rattle.tight.specs.Tight.{Doing, steps, info_step, packet_does, both, packets_do, without_unlocks, same_steps}
use Rattle.tight.specs.Tight.{accepted, rejected}
use Rattle.tight.specs.Tight.{steps_checked, frames_checked, proposal_checked, checked}
use Rattle.tight.specs.Unset.{uses_unset}
use Rattle.tight.proofs.AcceptedLaws.{any_split}
use Rattle.tight.proofs.PointerLaws.{from-fresh, fresh-does}
use Rattle.tight.proofs.SameLaws.{same-steps, steps-itself}
use Rattle.tight.proofs.MixedLaws.{other_unlock, without_info, without_other}

-- Each packet has at most 1,472 bytes and is accepted from a fresh card's pointers; the steps of all, joined.
pub data AcceptedAll : List (List ℕ) → List Step → Type 0 where
  none : AcceptedAll [] []
  more : {p : List ℕ} {ps : List (List ℕ)} {end : Carried} {ss : List Step} → length p ≤ limit → judge fresh p ≡ Judge.accepted end
      → AcceptedAll ps ss → AcceptedAll (p ∷ ps) (end.steps ++ ss)

-- No packet uses a space's pointer before it sets it.
pub data SetAll : List (List ℕ) → Type 0 where
  none : SetAll []
  more : {p : List ℕ} {ps : List (List ℕ)} → uses_unset p ≡ false → SetAll ps → SetAll (p ∷ ps)

-- The five conditions of a proposal for a good list: its marks and lengths are sound; every packet is accepted; none uses a
-- pointer before it sets it; its element reads and writes, unlock writes of 0x5A02 apart, are the list's records in order; it is
-- no longer than the packing rule's output.
pub record Accepts (list proposal : List ℕ) (count : ℕ) : Type 0 where
  pub xs : List Step
  pub list-records : records_of list ≡ Records.records xs
  pub packets : List (List ℕ)
  pub packet-count : count ≡ length packets
  pub sound : apart proposal ≡ frames packets
  pub done : List Step
  pub accepts : AcceptedAll packets done
  pub set : SetAll packets
  pub same : without_unlocks done ≡ xs
  pub short : length proposal ≤ length (output xs)

-- Packets that are let through, and their steps.
pub let_through : (ps : List (List ℕ)) (ss : List Step) → packets_do ps ≡ steps ss → AcceptedAll ps ss × SetAll ps
unfolding packets_do both
let_through [] ss e = let q : [] ≡ ss = cc in (rw (← q) AcceptedAll.none, SetAll.none)
let_through (p ∷ ps) ss e = go (packet_does p) (packets_do ps) refl refl (let_through ps) e
  where
    go : (d ds : Doing) → packet_does p ≡ d → packets_do ps ≡ ds
        → ((us : List Step) → packets_do ps ≡ steps us → AcceptedAll ps us × SetAll ps) → both d ds ≡ steps ss
        → AcceptedAll (p ∷ ps) ss × SetAll (p ∷ ps)
    go Doing.none ds a b later e = let z : ◌≡◌ {A = ℕ} 0 1 = cc in absurd (omega arith)
    go (steps ts) Doing.none a b later e = let z : ◌≡◌ {A = ℕ} 0 1 = cc in absurd (omega arith)
    go (steps ts) (steps us) a b later e =
        let q : ts ++ us ≡ ss = cc in
        let f = from-fresh p ts a in
        let (accepts, set) = later us b in
        let here = AcceptedAll.more f.short f.judged accepts in
        (rw (f.same, q) at here, SetAll.more f.set set)

through : (ps : List (List ℕ)) (ss : List Step) → AcceptedAll ps ss → SetAll ps → any_step info_step ss ≡ false → packets_do ps ≡ steps ss
unfolding packets_do both
through [] (_ ∷ _) x8 _ i = elim x8 [ ]
through [] [] AcceptedAll.none SetAll.none i = refl
through (p ∷ ps) ss (AcceptedAll.more {end = end} {ss = us} short judged accepts) (SetAll.more set sets) i =
    let (here, later) = any_split info_step end.steps us i in
    let does =
    fresh-does p end.steps
    (record { short = short; set = set; end = end; judged = judged; same = refl; plain = here }) in
    rw (does, through ps us accepts sets later)

-- the steps are those of one check
accepted_once : {ps : List (List ℕ)} {ss ts : List Step} → AcceptedAll ps ss → AcceptedAll ps ts → ss ≡ ts
accepted_once AcceptedAll.none AcceptedAll.none = refl
accepted_once (AcceptedAll.more {end = c} l e a) (AcceptedAll.more {end = d} m f b) =
    let q : c ≡ d = cc (sym e ∙ f) in rw (q, accepted_once a b)

-- A proposal is accepted exactly if all of these hold.
pub accepted-is : (list proposal : List ℕ) (count : ℕ) → checked list proposal ≡ accepted count → Accepts list proposal count
unfolding checked proposal_checked frames_checked steps_checked
accepted-is list proposal count = go (records_of list) refl
  where
    end : (xs : List Step) (ps : List (List ℕ)) (d : Doing) → records_of list ≡ Records.records xs
        → length proposal ≤ length (output xs) → apart proposal ≡ frames ps → packets_do ps ≡ d
        → steps_checked d xs (length ps) ≡ accepted count → Accepts list proposal count
    end xs ps Doing.none r l a d e = let z : ◌≡◌ {A = ℕ} 0 1 = cc in absurd (omega arith)
    end xs ps (steps ss) r l a d e = last (same_steps (without_unlocks ss) xs) refl e
      where
        last : (b : Bool) → same_steps (without_unlocks ss) xs ≡ b → cond b (accepted (length ps)) rejected ≡ accepted count
            → Accepts list proposal count
        last true s e =
            let (accepts, set) = let_through ps ss d in
            record {
              xs = xs;
              list-records = r;
              packets = ps;
              packet-count = cc;
              sound = a;
              done = ss;
              accepts = accepts;
              set = set;
              same = same-steps _ xs s;
              short = l;
            }
        last false s e = let z : ◌≡◌ {A = ℕ} 0 1 = cc in absurd (omega arith)

    middle : (xs : List Step) (long : Bool) (a : Apart) → records_of list ≡ Records.records xs
        → ltb (length (output xs)) (length proposal) ≡ long → apart proposal ≡ a
        → cond long rejected (frames_checked a xs) ≡ accepted count → Accepts list proposal count
    middle xs true a r l q e = let z : ◌≡◌ {A = ℕ} 0 1 = cc in absurd (omega arith)
    middle xs false unsound r l q e = let z : ◌≡◌ {A = ℕ} 0 1 = cc in absurd (omega arith)
    middle xs false (frames ps) r l q e = end xs ps (packets_do ps) r (ltb-false _ _ l) q refl e

    go : (v : Listed) → records_of list ≡ v → proposal_checked v proposal ≡ accepted count → Accepts list proposal count
    go (Records.refused n i) r e = let z : ◌≡◌ {A = ℕ} 0 1 = cc in absurd (omega arith)
    go (Records.records xs) r e = middle xs _ _ r refl refl e

-- no step of an accepted proposal is an info read
pub no_info : (list proposal : List ℕ) (count : ℕ) (a : Accepts list proposal count) → any_step info_step a.done ≡ false
no_info list proposal count a = without_info a.done (rw a.same (records-good list a.xs a.list-records))

pub is-accepted : (list proposal : List ℕ) (count : ℕ) → Accepts list proposal count → checked list proposal ≡ accepted count
unfolding checked proposal_checked frames_checked steps_checked
is-accepted list proposal count a =
    rw (
      a.list-records,
      le-ltb (length (output a.xs)) (length proposal) a.short,
      a.sound,
      through a.packets a.done a.accepts a.set (no_info list proposal count a),
      a.same,
      steps-itself a.xs,
      a.packet-count,
    )

-- Accepted packets that do what no good record and no unlock write does are rejected.
module _ (f : Step → Bool) (never : (ss : List Step) → Good (without_unlocks ss) → any_step f ss ≡ false) where
  rejected_for : (list proposal : List ℕ) (xs : List Step) → records_of list ≡ Records.records xs → (ps : List (List ℕ))
      → apart proposal ≡ frames ps → (ss : List Step) → AcceptedAll ps ss → any_step f ss ≡ true → checked list proposal ≡ rejected
  unfolding checked proposal_checked frames_checked steps_checked
  rejected_for list proposal xs r ps a ss d h =
      rw (r, a, go (packets_do ps) refl) (either (ltb (length (output xs)) (length proposal)))
    where
      differs : (b : Bool) → same_steps (without_unlocks ss) xs ≡ b → cond b (accepted (length ps)) rejected ≡ rejected
      differs true e =
          let z : ◌≡◌ {A = ℕ} 0 1 = cc (never ss (rw (same-steps _ xs e) (records-good list xs r))) in absurd (omega arith)
      differs false e = refl

      go : (d : Doing) → packets_do ps ≡ d → steps_checked d xs (length ps) ≡ rejected
      go Doing.none e = refl
      go (steps ts) e = rw (accepted_once (let_through ps ts e).0 d) (differs _ refl)

      either : (b : Bool) → cond b rejected rejected ≡ rejected
      either true = refl
      either false = refl

-- An info command is rejected, and so is a write of another value than 0x5A02 to the unlock cell.
pub info-rejected : (list proposal : List ℕ) (xs : List Step) → records_of list ≡ Records.records xs → (ps : List (List ℕ))
    → apart proposal ≡ frames ps → (ss : List Step) → AcceptedAll ps ss → any_step info_step ss ≡ true
    → checked list proposal ≡ rejected
info-rejected = rejected_for info_step without_info

pub other-unlock_rejected : (list proposal : List ℕ) (xs : List Step) → records_of list ≡ Records.records xs
    → (ps : List (List ℕ)) → apart proposal ≡ frames ps → (ss : List Step) → AcceptedAll ps ss → any_step other_unlock ss ≡ true
    → checked list proposal ≡ rejected
other-unlock_rejected = rejected_for other_unlock without_other
