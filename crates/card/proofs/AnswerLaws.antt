-- What a check and a run answer and leave, as the code puts them together.
use Prim.Native.Nat.{ℕ, ◌≤◌, ◌<◌}
use mathlib.Core.Path.{◌≡◌, refl, sym, ap, ◌∙◌}
use mathlib.Core.List.{List, [], ◌∷◌}
use mathlib.Core.Bool.{Bool, true, false, cond}
use native.Mathlib.Omega.{arith}
use lib.ListN.{length}
use lib.Dec.{eqb}
use mathlib.Core.Logic.{◌⊎◌, inl, inr}
use borrow.Author.Tests.{lt-ltb, le-ltb, eq-eqb, ne_eqb, eqb-true, eqb-false}
use Rattle.lbp16.specs.Answer.{Answer}
use Rattle.lbp16.specs.Space.{store_bytes}
use Rattle.lbp16.specs.declared.pointer.Pointers.{Pointers}
use Rattle.packet.specs.Command.{limit}
use Rattle.packet.specs.Judge.{Verdict, judge, accepted, refused}
use Rattle.packet.specs.Verdict.{answer_to, verdict_listed}
use Rattle.packet.specs.Counts.{elements_moved}
use Rattle.card.specs.Run.{Outcome, cleared, counted, bad_state, checked_packet, checked, outcome, run_verdict, run_packet, ran}
use Rattle.card.specs.Run.{checked_lent, LentOutcome, as_lent, run_lent, ran_lent, most_elements}
use Rattle.lbp16.specs.Pointer.{pointers_of, lent_pointers}
use Rattle.lbp16.proofs.PointerLaws.{lent_back, lent_length, back-lent}
use Rattle.card.specs.Inside.{IsAccepted, Performed}
use Rattle.card.specs.declared.run.Ran.{Ran}
use Rattle.card.specs.declared.run.RanLent.{RanLent}
use Rattle.card.proofs.RunLaws.{checked-cases, run_checked, good-state, elements_summed, at_most}

-- Packet and pointers alone.
module _ (p : Pointers) (packet : List ℕ) where
  pub packet-long : limit < length packet → checked_packet p packet ≡ refused 2 0
  unfolding checked_packet
  packet-long h = rw (lt-ltb _ _ h) refl

  pub packet-judged : length packet ≤ limit → checked_packet p packet ≡ judge p packet
  unfolding checked_packet
  packet-judged h = rw (le-ltb _ _ h) refl

module _ (packet store : List ℕ) (p : Pointers) where
  pub check-state : bad_state store p ≡ true → checked packet store p ≡ refused 1 0
  unfolding checked
  check-state e = rw e refl

  pub check-long : bad_state store p ≡ false → limit < length packet → checked packet store p ≡ refused 2 0
  unfolding checked
  check-long fine h = rw fine (packet-long p packet h)

  pub check-judge : bad_state store p ≡ false → length packet ≤ limit → checked packet store p ≡ judge p packet
  unfolding checked
  check-judge fine h = rw fine (packet-judged p packet h)

  -- A packet that the check accepts is one that may be done.
  pub may_run : (n : ℕ) → Answer.accepted (n ∷ []) ≡ answer_to (checked packet store p)
      → IsAccepted (judge p packet) × (length store ≡ store_bytes) × (checked packet store p ≡ judge p packet)
  unfolding answer_to
  may_run n =
      checked-cases packet store p
      (λ v. Answer.accepted (n ∷ []) ≡ answer_to v
      → IsAccepted (judge p packet) × (length store ≡ store_bytes) × (checked packet store p ≡ judge p packet))
      (λ _ e. let z : ◌≡◌ {A = ℕ} 0 1 = cc in absurd (omega arith))
      (λ _ _ e. let z : ◌≡◌ {A = ℕ} 0 1 = cc in absurd (omega arith))
      (λ fine short e. (go (judge p packet) e, (good-state store p fine).0, check-judge fine short))
    where
      go : (v : Verdict) → Answer.accepted (n ∷ []) ≡ answer_to v → IsAccepted v
      go (refused m place) e = let z : ◌≡◌ {A = ℕ} 0 1 = cc in absurd (omega arith)
      go (accepted c) e = tt

-- a count of pointers is eight or another
eight_or_not : (n : ℕ) → (n ≡ 8) ⊎ (n ≡ 8 → ⊥)
eight_or_not n = go (eqb n 8) refl
  where
    go : (b : Bool) → eqb n 8 ≡ b → (n ≡ 8) ⊎ (n ≡ 8 → ⊥)
    go true e = inl (eqb-true n 8 e)
    go false e = inr (eqb-false n 8 e)

-- The same with pointers as a list.
checked-eight : (packet store lent : List ℕ) → length lent ≡ 8 → checked_lent packet store lent ≡ checked packet store (pointers_of lent)
unfolding checked_lent
checked-eight packet store lent l = rw (eq-eqb _ _ l) refl

module _ (packet store lent : List ℕ) where
  pub lent_other : (length lent ≡ 8 → ⊥) → checked_lent packet store lent ≡ refused 1 0
  unfolding checked_lent
  lent_other h = rw (ne_eqb _ _ h) refl

  pub lent-checked : (a : Answer) → length lent ≡ 8 → (v : Verdict) → checked packet store (pointers_of lent) ≡ v → a ≡ answer_to v
      → a ≡ answer_to (checked_lent packet store lent)
  lent-checked a l v e h = h ∙ ap answer_to (sym (checked-eight packet store lent l ∙ e))

  -- a packet that is accepted on a list: there are eight, and it may be done
  pub may_run_lent : (n : ℕ) → Answer.accepted (n ∷ []) ≡ answer_to (checked_lent packet store lent)
      → (length lent ≡ 8) × IsAccepted (judge (pointers_of lent) packet) × (length store ≡ store_bytes)
      × (checked_lent packet store lent ≡ judge (pointers_of lent) packet)
  unfolding answer_to
  may_run_lent n e = go (eight_or_not (length lent)) e
    where
      go : ((length lent ≡ 8) ⊎ (length lent ≡ 8 → ⊥)) → Answer.accepted (n ∷ []) ≡ answer_to (checked_lent packet store lent)
          → (length lent ≡ 8) × IsAccepted (judge (pointers_of lent) packet) × (length store ≡ store_bytes)
          × (checked_lent packet store lent ≡ judge (pointers_of lent) packet)
      go (inl l) e =
          let m = may_run packet store (pointers_of lent) n (e ∙ ap answer_to (checked-eight packet store lent l)) in
          (l, m.0, m.1, checked-eight packet store lent l ∙ m.2)
      go (inr h) e = let q = e ∙ ap answer_to (lent_other h) in let z : ◌≡◌ {A = ℕ} 0 1 = cc in absurd (omega arith)

module _ (packet store lent reply : List ℕ) where
  listed : (r : RanLent) (store' lent' reply' : List ℕ) (o : Outcome) → length lent ≡ 8 → run_packet packet store (pointers_of lent) reply ≡ o
      → ran_lent r store' lent' reply' ≡ as_lent o → ran_lent r store' lent' reply' ≡ run_lent packet store lent reply
  unfolding run_lent
  listed r store' lent' reply' o l e h = rw (eq-eqb _ _ l, e) h

  other-count : (r : RanLent) → (length lent ≡ 8 → ⊥) → verdict_listed r.answer ≡ Answer.refused 1 0 → r.elements ≡ 0
      → ran_lent r store lent reply ≡ run_lent packet store lent reply
  unfolding run_lent ran_lent
  other-count r h a z = rw (ne_eqb _ _ h, a, z) refl

  pub other-room : (length reply ≡ limit → ⊥) → (r : RanLent) → verdict_listed r.answer ≡ Answer.refused 1 0 → r.elements ≡ 0
      → ran_lent r store lent reply ≡ run_lent packet store lent reply
  unfolding run_packet run_verdict ran_lent as_lent outcome answer_to
  other-room h r a z = go (eight_or_not (length lent))
    where
      go : (length lent ≡ 8) ⊎ (length lent ≡ 8 → ⊥) → ran_lent r store lent reply ≡ run_lent packet store lent reply
      go (inl l) =
          listed r store lent reply _ l refl (rw (ne_eqb _ _ h, a, z, lent_back lent l) refl)
      go (inr k) = other-count r k a z

  module _ (room : length reply ≡ limit) where
    pub run_refused : (n place : ℕ) (r : RanLent) → verdict_listed r.answer ≡ Answer.refused n place
        → Answer.refused n place ≡ answer_to (checked_lent packet store lent) → r.elements ≡ 0
        → ran_lent r store lent reply ≡ run_lent packet store lent reply
    unfolding ran_lent as_lent outcome answer_to
    run_refused n place r a e z = go (eight_or_not (length lent))
      where
        by : (v : Verdict) → length lent ≡ 8 → Answer.refused n place ≡ answer_to v
            → ran_lent r store lent reply ≡ as_lent (outcome v store (pointers_of lent) reply)
        by (refused m k) l e = rw (a, e, z, lent_back lent l) refl
        by (accepted c) l e = let z : ◌≡◌ {A = ℕ} 0 1 = cc in absurd (omega arith)

        go : (length lent ≡ 8) ⊎ (length lent ≡ 8 → ⊥) → ran_lent r store lent reply ≡ run_lent packet store lent reply
        go (inl l) =
            listed r store lent reply _ l (run_checked packet store (pointers_of lent) reply room)
            (by (checked packet store (pointers_of lent)) l (e ∙ ap answer_to (checked-eight packet store lent l)))
        go (inr h) = other-count r h (a ∙ e ∙ ap answer_to (lent_other packet store lent h)) z

    pub run_done : (n : ℕ) (r : RanLent) (left reply' lent' : List ℕ) → verdict_listed r.answer ≡ Answer.accepted (n ∷ [])
        → Answer.accepted (n ∷ []) ≡ answer_to (checked_lent packet store lent)
        → Performed packet store reply lent left reply' lent' r.elements → (store' : List ℕ) → store' ≡ counted (cleared left)
        → ran_lent r store' lent' reply' ≡ run_lent packet store lent reply
    unfolding ran_lent as_lent outcome
    run_done n r left reply' lent' a e d store' q =
        let m = may_run_lent packet store lent n e in
        let v = m.3 ∙ d.judged in
        let w = sym (checked-eight packet store lent m.0) ∙ v in
        listed r store' lent' reply' _ m.0 (run_checked packet store (pointers_of lent) reply room)
        (rw (w, a, e, ap answer_to v, q, d.stored, d.replied, d.pointed, d.moved) refl)

-- the refusal of another count of pointers than eight
abbrev not_eight : List ℕ → List ℕ → List ℕ → LentOutcome
not_eight store lent reply = record { answer = Answer.refused 1 0; elements = 0; store = store; reply = reply; pointers = lent }

-- What a run answers has the number of elements moved, and that is bounded.
module _ (packet store lent reply : List ℕ) where
  lent-cases : (P : LentOutcome → Type 0) → P (as_lent (run_packet packet store (pointers_of lent) reply)) → P (not_eight store lent reply)
      → P (run_lent packet store lent reply)
  unfolding run_lent
  lent-cases P eight other = go (eqb (length lent) 8)
    where
      go : (b : Bool) → P (cond b (as_lent (run_packet packet store (pointers_of lent) reply)) (not_eight store lent reply))
      go true = eight
      go false = other

  pub lent_work : (r : RanLent) (store' lent' reply' : List ℕ) → ran_lent r store' lent' reply' ≡ run_lent packet store lent reply
      → (ran_lent r store' lent' reply' ≡ run_lent packet store lent reply)
      × ((r.elements ≡ elements_moved (verdict_listed r.answer) packet) × (r.elements ≤ most_elements))
  unfolding ran_lent as_lent elements_moved
  lent_work r store' lent' reply' h =
      let summed = lent-cases (λ o. o.elements ≡ elements_moved o.answer packet) (elements_summed packet store _ reply) refl in
      let bounded = lent-cases (λ o. o.elements ≤ most_elements) (at_most packet store _ reply) (omega arith) in
      (h, (rw (← h) at summed, rw (← h) at bounded))

pub ran_work : (packet store reply : List ℕ) (p : Pointers) (r : Ran) (store' reply' : List ℕ)
    → ran r store' reply' ≡ run_packet packet store p reply
    → (ran r store' reply' ≡ run_packet packet store p reply)
    × ((r.elements ≡ elements_moved (verdict_listed r.answer) packet) × (r.elements ≤ most_elements))
unfolding ran
ran_work packet store reply p r store' reply' h =
    (h, (rw (← h) at (elements_summed packet store p reply), rw (← h) at (at_most packet store p reply)))

-- pointers by value, checked as their list
pub check-listed : (packet store : List ℕ) (p : Pointers) (lent : List ℕ) (a : Answer) → lent ≡ lent_pointers p
    → a ≡ answer_to (checked_lent packet store lent) → a ≡ answer_to (checked packet store p)
unfolding checked_lent
check-listed packet store p lent a e h = h ∙ rw (e, eq-eqb _ _ (lent_length p), back-lent p) refl

eight-listed : (packet store reply : List ℕ) (p : Pointers) (lent : List ℕ) → lent ≡ lent_pointers p
    → run_lent packet store lent reply ≡ as_lent (run_packet packet store p reply)
unfolding run_lent
eight-listed packet store reply p lent e = rw (e, eq-eqb _ _ (lent_length p), back-lent p) refl

-- pointers by value, run as their list
pub ran-listed : (packet store reply : List ℕ) (p : Pointers) (l : RanLent) (r : Ran) (store' lent lent' reply' : List ℕ)
    → lent ≡ lent_pointers p → ran_lent l store' lent' reply' ≡ run_lent packet store lent reply → r.answer ≡ l.answer
    → r.elements ≡ l.elements → r.pointers ≡ pointers_of lent' → ran r store' reply' ≡ run_packet packet store p reply
unfolding ran ran_lent as_lent
ran-listed packet store reply p l r store' lent lent' reply' e h a n q =
    let same : ran_lent l store' lent' reply' ≡ as_lent (run_packet packet store p reply) = h ∙ eight-listed packet store reply p lent e in
    rw (a, n, q) (back same)
  where
    back : ran_lent l store' lent' reply' ≡ as_lent (run_packet packet store p reply)
        → ◌≡◌ {A = Outcome}
        (record { answer = verdict_listed l.answer; elements = l.elements; store = store'; reply = reply'; pointers = pointers_of lent' })
        (run_packet packet store p reply)
    back h =
        λ i.
        record {
          answer = (h i).answer;
          elements = (h i).elements;
          store = (h i).store;
          reply = (h i).reply;
          pointers = (ap (λ (o : LentOutcome). pointers_of o.pointers) h ∙ back-lent (run_packet packet store p reply).pointers) i;
        }
