-- Check and run with a guard: what the guard lets pass is as without it, and what the code answers and leaves.
use Prim.Native.Nat.{ℕ}
use mathlib.Core.Path.{◌≡◌, refl, sym, ap, ◌∙◌}
use mathlib.Core.List.{List}
use mathlib.Core.Bool.{Bool, true, false, not, cond}
use native.Mathlib.Omega.{arith}
use lib.Dec.{eqb}
use lib.ListN.{length}
use borrow.Author.Tests.{eq-eqb, ne_eqb, eqb-true, eqb-false}
use Rattle.lbp16.specs.Answer.{Answer}
use Rattle.lbp16.specs.Pointer.{pointers_of}
use Rattle.lbp16.specs.declared.pointer.Pointers.{Pointers}
use Rattle.lbp16.proofs.PointerLaws.{lent_back}
use Rattle.packet.specs.Step.{reply_bytes}
use Rattle.packet.specs.Command.{limit}
use Rattle.packet.specs.Judge.{Carried, Verdict, refused, accepted, judge}
use Rattle.packet.specs.Counts.{elements_moved}
use Rattle.packet.specs.Verdict.{answer_to, verdict_listed}
use Rattle.card.specs.Run.{checked, outcome, run_verdict, run_packet, checked_lent, Outcome, LentOutcome, as_lent, run_lent, ran_lent}
use Rattle.card.specs.declared.run.RanLent.{RanLent}
use Rattle.card.proofs.RunLaws.{checked-cases}
use Rattle.card.proofs.AnswerLaws.{may_run_lent, lent_other}
use Rattle.interlock.specs.Guard.{soundness, protected}
use Rattle.interlock.specs.Guarded.{sound_first, protected_place, held_back, guarded_verdict, guarded_check, guarded_packet, guarded_run}
use Rattle.interlock.specs.Inside.{instead_of}
use Rattle.interlock.proofs.PlaceLaws.{place_tells}

-- a packet that is accepted is one whose commands are
pub judged_run : (packet store : List ℕ) (p : Pointers) (reply : List ℕ) (c : Carried) → run_verdict packet store p reply ≡ accepted c
    → judge p packet ≡ accepted c
unfolding run_verdict
judged_run packet store p reply c = go (eqb (length reply) limit)
  where
    go : (b : Bool) → cond b (checked packet store p) (refused 1 0) ≡ accepted c → judge p packet ≡ accepted c
    go true e =
        checked-cases packet store p (λ v. v ≡ accepted c → judge p packet ≡ accepted c)
        (λ _ e. let z : ◌≡◌ {A = ℕ} 0 1 = cc in absurd (omega arith))
        (λ _ _ e. let z : ◌≡◌ {A = ℕ} 0 1 = cc in absurd (omega arith))
        (λ _ _ e. e)
        e
    go false e = let z : ◌≡◌ {A = ℕ} 0 1 = cc in absurd (omega arith)

judged-list : (packet store list : List ℕ) (c : Carried) → checked_lent packet store list ≡ accepted c
    → (length list ≡ 8) × (judge (pointers_of list) packet ≡ accepted c)
unfolding answer_to
judged-list packet store list c e =
    let m = may_run_lent packet store list (reply_bytes c.steps) (sym (ap answer_to e)) in (m.0, sym m.3 ∙ e)

module _ (guard : List ℕ) (p : Pointers) (packet : List ℕ) where
  -- A guard that is not sound is refused, whatever the plain verdict is.
  pub unsound : (n i : ℕ) → Answer.refused n i ≡ soundness guard → (v : Verdict) → guarded_verdict guard p packet v ≡ refused n i
  unfolding guarded_verdict sound_first
  unsound n i e v = rw (← e) refl

  module _ (values : List ℕ) (sound : soundness guard ≡ Answer.accepted values) where
    kept : (v : Verdict) → guarded_verdict guard p packet v ≡ held_back guard p packet v
    unfolding guarded_verdict sound_first
    kept v = rw sound refl

    -- What writes no protected byte has the plain verdict.
    pub passes : (v : Verdict) → ((c : Carried) → v ≡ accepted c → protected guard c.steps ≡ false) → guarded_verdict guard p packet v ≡ v
    unfolding held_back
    passes (refused n i) h = kept (refused n i)
    passes (accepted c) h = kept (accepted c) ∙ rw (h c refl) refl

    -- What writes one is refused with 71.
    pub stopped : (c : Carried) → protected guard c.steps ≡ true
        → guarded_verdict guard p packet (accepted c) ≡ refused 71 (protected_place guard p packet)
    unfolding held_back
    stopped c h = kept (accepted c) ∙ rw h refl

    -- as the code finds the place: of a verdict that accepts only what `judge` accepts
    module _ (place : ℕ) (v : Verdict)
        (found : (c : Carried) → v ≡ accepted c → (judge p packet ≡ accepted c) × (place ≡ protected_place guard p packet)) where
      pub none_found : place ≡ length packet → guarded_verdict guard p packet v ≡ v
      none_found e =
          passes v
          (λ c q.
          let (a, at) = found c q in
          place_tells guard p packet c a ∙ ap not (eq-eqb _ _ (sym at ∙ e)))

      pub one_found : (place ≡ length packet → ⊥) → answer_to (guarded_verdict guard p packet v) ≡ instead_of (answer_to v) place
      unfolding answer_to instead_of
      one_found h = go v refl
        where
          go : (u : Verdict) → v ≡ u → answer_to (guarded_verdict guard p packet u) ≡ instead_of (answer_to u) place
          go (refused n i) q = ap answer_to (passes (refused n i) (λ c z. let y : ◌≡◌ {A = ℕ} 0 1 = cc in absurd (omega arith)))
          go (accepted c) q =
              let (a, at) = found c q in
              let t = place_tells guard p packet c a ∙ ap not (ne_eqb _ _ (λ z. h (at ∙ z))) in
              ap answer_to (stopped c t) ∙ ap (Answer.refused 71) (sym at)

-- An unprotected packet runs as without the guard.
pub nothing_else : (guard values packet store : List ℕ) (p : Pointers) (reply : List ℕ) → soundness guard ≡ Answer.accepted values
    → ((c : Carried) → judge p packet ≡ accepted c → protected guard c.steps ≡ false)
    → guarded_packet guard packet store p reply ≡ run_packet packet store p reply
unfolding guarded_packet run_packet
nothing_else guard values packet store p reply sound h =
    ap (λ v. outcome v store p reply) (passes guard p packet values sound _ (λ c e. h c (judged_run packet store p reply c e)))

-- What holds of every refusal, and of a packet that is accepted and writes no protected byte, holds of every guarded run.
pub guarded_cases : (guard packet store : List ℕ) (p : Pointers) (reply : List ℕ) (P : Outcome → Type 0)
    → ((n i : ℕ) → P (outcome (refused n i) store p reply))
    → ((c : Carried) (values : List ℕ) → soundness guard ≡ Answer.accepted values → judge p packet ≡ accepted c
    → protected guard c.steps ≡ false → P (outcome (accepted c) store p reply))
    → P (guarded_packet guard packet store p reply)
unfolding guarded_packet guarded_verdict sound_first held_back
guarded_cases guard packet store p reply P refuses accepts = go (soundness guard) refl (run_verdict packet store p reply) refl
  where
    held : (values : List ℕ) → soundness guard ≡ Answer.accepted values → (c : Carried) → judge p packet ≡ accepted c → (b : Bool)
        → protected guard c.steps ≡ b
        → P (outcome (cond b (refused 71 (protected_place guard p packet)) (accepted c)) store p reply)
    held values s c j true e = refuses _ _
    held values s c j false e = accepts c values s j e

    go : (a : Answer) → soundness guard ≡ a → (v : Verdict) → run_verdict packet store p reply ≡ v
        → P (outcome (sound_first a (held_back guard p packet v)) store p reply)
    go (Answer.refused n i) s v e = refuses n i
    go (Answer.accepted values) s (refused n i) e = refuses n i
    go (Answer.accepted values) s (accepted c) e = held values s c (judged_run packet store p reply c e) _ refl

-- The check, as the code comes to it.
module _ (guard packet store pointers : List ℕ) where
  pub check-unsound : (n i : ℕ) → Answer.refused n i ≡ soundness guard → Answer.refused n i ≡ answer_to (guarded_check guard packet store pointers)
  unfolding guarded_check answer_to
  check-unsound n i e = rw (unsound guard (pointers_of pointers) packet n i e) refl

  module _ (values : List ℕ) (sound : Answer.accepted values ≡ soundness guard) (place : ℕ)
      (walked : length pointers ≡ 8 → (end : Carried) → judge (pointers_of pointers) packet ≡ accepted end
      → place ≡ protected_place guard (pointers_of pointers) packet) where
    found-list : (c : Carried) → checked_lent packet store pointers ≡ accepted c
        → (judge (pointers_of pointers) packet ≡ accepted c) × (place ≡ protected_place guard (pointers_of pointers) packet)
    found-list c e = let (l, j) = judged-list packet store pointers c e in (j, walked l c j)

    pub check-passes : place ≡ length packet → (a : Answer) → a ≡ answer_to (checked_lent packet store pointers)
        → a ≡ answer_to (guarded_check guard packet store pointers)
    unfolding guarded_check
    check-passes e a h =
        h ∙ ap answer_to (sym (none_found guard _ packet values (sym sound) place _ found-list e))

    pub check-stopped : (place ≡ length packet → ⊥) → (a : Answer) → a ≡ instead_of (answer_to (checked_lent packet store pointers)) place
        → a ≡ answer_to (guarded_check guard packet store pointers)
    unfolding guarded_check
    check-stopped e a h =
        h ∙ sym (one_found guard _ packet values (sym sound) place _ found-list e)

-- a refusal stays, and 71 stands in an acceptance's place
pub stays : (a : Answer) (place : ℕ) (n i : ℕ) → a ≡ Answer.refused n i → a ≡ instead_of a place
unfolding instead_of
stays a place n i e = rw e refl

pub replaced : (a : Answer) (place : ℕ) (values : List ℕ) → Answer.accepted values ≡ a → Answer.refused 71 place ≡ instead_of a place
unfolding instead_of
replaced a place values e = rw (← e) refl

-- so that it is always a refusal
always : (a : Answer) (place : ℕ) → (n : ℕ) × ((i : ℕ) × (instead_of a place ≡ Answer.refused n i))
unfolding instead_of
always (Answer.accepted values) place = (71, (place, refl))
always (Answer.refused n i) place = (n, (i, refl))

-- A refused packet moves no element.
pub none-moved : (packet : List ℕ) (a : Answer) (n i : ℕ) → a ≡ Answer.refused n i → 0 ≡ elements_moved a packet
unfolding elements_moved
none-moved packet a n i e = rw e refl

pub none-held : (packet : List ℕ) (a b : Answer) (place : ℕ) → a ≡ instead_of b place → 0 ≡ elements_moved a packet
none-held packet a b place e = let (n, (i, is)) = always b place in none-moved packet a n i (e ∙ is)

-- The run, as the code comes to it.
module _ (guard packet store pointers reply : List ℕ) where
  refused-outcome : (v : Verdict) (n i : ℕ) → answer_to v ≡ Answer.refused n i → length pointers ≡ 8
      → as_lent (outcome v store (pointers_of pointers) reply)
      ≡ record { answer = Answer.refused n i; elements = 0; store = store; reply = reply; pointers = pointers }
  unfolding answer_to as_lent outcome
  refused-outcome (refused m k) n i e l = rw (e, lent_back pointers l) refl
  refused-outcome (accepted c) n i e l = let z : ◌≡◌ {A = ℕ} 0 1 = cc in absurd (omega arith)

  -- what the guarded run leaves, by whether there are eight pointers
  abbrev by_count : Bool → LentOutcome
  by_count b =
      cond b
      (as_lent
      (outcome (guarded_verdict guard (pointers_of pointers) packet (run_verdict packet store (pointers_of pointers) reply)) store
      (pointers_of pointers)
      reply))
      (record {
        answer = answer_to (sound_first (soundness guard) (refused 1 0));
        elements = 0;
        store = store;
        reply = reply;
        pointers = pointers;
      })

  refused_run : (n i : ℕ)
      → (length pointers ≡ 8
      → answer_to (guarded_verdict guard (pointers_of pointers) packet (run_verdict packet store (pointers_of pointers) reply)) ≡ Answer.refused n i)
      → ((length pointers ≡ 8 → ⊥) → answer_to (sound_first (soundness guard) (refused 1 0)) ≡ Answer.refused n i)
      → (r : RanLent) → verdict_listed r.answer ≡ Answer.refused n i → r.elements ≡ 0
      → ran_lent r store pointers reply ≡ guarded_run guard packet store pointers reply
  unfolding guarded_run guarded_packet ran_lent
  refused_run n i eight other r a z = rw (a, z) (go (eqb (length pointers) 8) refl)
    where
      go : (b : Bool) → eqb (length pointers) 8 ≡ b
          → ◌≡◌ {A = LentOutcome} (record { answer = Answer.refused n i; elements = 0; store = store; reply = reply; pointers = pointers })
          (by_count b)
      go true q = let l = eqb-true _ _ q in sym (refused-outcome _ n i (eight l) l)
      go false q = rw (other (eqb-false _ _ q)) refl

  same-verdict : length reply ≡ limit → length pointers ≡ 8
      → run_verdict packet store (pointers_of pointers) reply ≡ checked_lent packet store pointers
  unfolding run_verdict checked_lent
  same-verdict room l = rw (eq-eqb _ _ room, eq-eqb _ _ l) refl

  pub run_unsound : (n i : ℕ) → Answer.refused n i ≡ soundness guard → (r : RanLent) → verdict_listed r.answer ≡ Answer.refused n i
      → r.elements ≡ 0 → ran_lent r store pointers reply ≡ guarded_run guard packet store pointers reply
  unfolding answer_to sound_first
  run_unsound n i e = refused_run n i (λ _. ap answer_to (unsound guard (pointers_of pointers) packet n i e _)) (λ _. rw (← e) refl)

  module _ (values : List ℕ) (sound : Answer.accepted values ≡ soundness guard) (place : ℕ)
      (walked : length pointers ≡ 8 → (end : Carried) → judge (pointers_of pointers) packet ≡ accepted end
      → place ≡ protected_place guard (pointers_of pointers) packet) where
    found_run : length pointers ≡ 8 → (c : Carried) → run_verdict packet store (pointers_of pointers) reply ≡ accepted c
        → (judge (pointers_of pointers) packet ≡ accepted c) × (place ≡ protected_place guard (pointers_of pointers) packet)
    found_run l c e = let j = judged_run packet store (pointers_of pointers) reply c e in (j, walked l c j)

    pub run_passes : place ≡ length packet → (o : LentOutcome) → o ≡ run_lent packet store pointers reply
        → o ≡ guarded_run guard packet store pointers reply
    unfolding run_lent guarded_run run_packet guarded_packet sound_first answer_to
    run_passes e o h = h ∙ go (eqb (length pointers) 8) refl
      where
        go : (b : Bool) → eqb (length pointers) 8 ≡ b
            → ◌≡◌ {A = LentOutcome}
            (cond b (as_lent (outcome (run_verdict packet store (pointers_of pointers) reply) store (pointers_of pointers) reply))
            (record { answer = Answer.refused 1 0; elements = 0; store = store; reply = reply; pointers = pointers }))
            (by_count b)
        go true q =
            let same = none_found guard (pointers_of pointers) packet values (sym sound) place _ (found_run (eqb-true _ _ q)) e in
            ap (λ v. as_lent (outcome v store (pointers_of pointers) reply)) (sym same)
        go false q = rw (← sound) refl

    pub run_room : (length reply ≡ limit → ⊥) → (r : RanLent) → verdict_listed r.answer ≡ Answer.refused 1 0 → r.elements ≡ 0
        → ran_lent r store pointers reply ≡ guarded_run guard packet store pointers reply
    unfolding run_verdict sound_first answer_to
    run_room h =
        refused_run 1 0
        (λ _.
        rw (ne_eqb _ _ h)
        (ap answer_to
        (passes guard (pointers_of pointers) packet values (sym sound) (refused 1 0)
        (λ c z. let y : ◌≡◌ {A = ℕ} 0 1 = cc in absurd (omega arith)))))
        (λ _. rw (← sound) refl)

    pub run_stopped : (place ≡ length packet → ⊥) → length reply ≡ limit → (r : RanLent)
        → verdict_listed r.answer ≡ instead_of (answer_to (checked_lent packet store pointers)) place → r.elements ≡ 0
        → ran_lent r store pointers reply ≡ guarded_run guard packet store pointers reply
    unfolding sound_first answer_to instead_of
    run_stopped e room r a z = go (always (answer_to (checked_lent packet store pointers)) place)
      where
        go : (n : ℕ) × ((i : ℕ) × (instead_of (answer_to (checked_lent packet store pointers)) place ≡ Answer.refused n i))
            → ran_lent r store pointers reply ≡ guarded_run guard packet store pointers reply
        go (n, (i, is)) =
            refused_run n i
            (λ l.
            one_found guard (pointers_of pointers) packet values (sym sound) place _ (found_run l) e
            ∙ ap (λ v. instead_of (answer_to v) place) (same-verdict room l)
            ∙ is)
            (λ l. rw (← sound) (ap (λ v. instead_of (answer_to v) place) (sym (lent_other packet store pointers l)) ∙ is))
            r
            (a ∙ is)
            z
