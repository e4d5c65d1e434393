-- Vetted before the show: packets that hold records of which none writes a protected byte run as without the guard.
use Prim.Native.Nat.{ℕ, suc}
use mathlib.Core.Path.{◌≡◌, refl, sym, ap, ◌∙◌}
use mathlib.Core.Logic.{inl, inr, ⊎_elim}
use mathlib.Core.List.{List, [], ◌∷◌, ◌++◌}
use mathlib.Core.Bool.{Bool, true, false, ◌||◌, ◌&&◌}
use native.Mathlib.Omega.{arith}
use lib.ListN.{length, take}
use borrow.Author.Tests.{eq-eqb, le-ltb}
use Rattle.lbp16.specs.Answer.{Answer}
use Rattle.lbp16.specs.Space.{row, area_row}
use Rattle.lbp16.specs.declared.pointer.Pointers.{Pointers}
use Rattle.lbp16.proofs.BoolLaws.{or_false}
use Rattle.packet.specs.Step.{Step, is_info, is_write, row_by, at, store_after}
use Rattle.packet.specs.Rules.{any_step}
use Rattle.packet.specs.Command.{limit}
use Rattle.packet.specs.Judge.{Carried, accepted}
use Rattle.packet.specs.Verdict.{answer_to}
use Rattle.packet.proofs.StoreLaws.{length-after}
use Rattle.card.specs.Run.{unlock_cell, cleared, counted, bad_state, checked_packet, checked, Outcome, outcome, run_verdict}
use Rattle.card.proofs.RunLaws.{good-state, state-again, length-cleared, length-counted, run_accepted}
use Rattle.cue.specs.Records.{records, records_of}
use Rattle.cue.specs.Output.{frames, apart}
use Rattle.cue.specs.Compile.{packed, compiled}
use Rattle.cue.specs.Play.{Played, is_accepted, reply_length, play}
use Rattle.cue.proofs.Relations.{Mixed, Does, Holds}
use Rattle.cue.proofs.RecordLaws.{records-good}
use Rattle.cue.proofs.RunAll.{run_all}
use Rattle.cue.proofs.Demand3.{packets_hold, demand3}
use Rattle.tight.specs.Tight
use Rattle.tight.proofs.CheckedLaws.{accepted-is, no_info}
use Rattle.tight.proofs.Demand3Laws.{done-holds}
use Rattle.interlock.specs.Guard.{soundness, touches, writes_protected, protected}
use Rattle.interlock.specs.Guarded.{protected_place, guarded_packet, guarded_list}
use Rattle.interlock.specs.Vetted.{guarded_play, AllPass, SomeStopped, GuardedDemand3, GuardedTight}
use Rattle.interlock.proofs.RangeLaws.{or_true, unlock-free}
use Rattle.interlock.proofs.BlockLaws.{protected-joined}
use Rattle.interlock.proofs.GuardedLaws.{passes, stopped}
use Rattle.interlock.proofs.ListLaws.{let_pass, held_back_lem}

-- Unlock writes among the records write no byte that a sound guard protects.
mixed-same : (guard : List ℕ) → touches guard unlock_cell 2 ≡ false → {ss xs : List Step} → Mixed ss xs → protected guard ss ≡ protected guard xs
unfolding protected any_step writes_protected at row_by is_info is_write area_row row
mixed-same guard free Mixed.none = refl
mixed-same guard free (Mixed.same {x = x} m) = ap (λ (t : Bool). writes_protected guard x || t) (mixed-same guard free m)
mixed-same guard free (Mixed.unlock {ss = ss} w v m) = ap (λ (t : Bool). t || protected guard ss) free ∙ mixed-same guard free m

module _ (guard values : List ℕ) (sound : soundness guard ≡ Answer.accepted values) where
  -- A packet that does its steps from every good state: the verdict of its run.
  module _ {packet : List ℕ} {ss : List Step} (d : Does packet ss) (store : List ℕ) (p : Pointers) (reply : List ℕ)
      (fine : bad_state store p ≡ false) (room : length reply ≡ limit) where
    abbrev end : Carried
    end = (d.judged p (good-state store p fine).1).0

    abbrev steps_are : end.steps ≡ ss
    steps_are = (d.judged p (good-state store p fine).1).2

    verdict : run_verdict packet store p reply ≡ accepted end
    unfolding run_verdict checked checked_packet
    verdict = rw (eq-eqb _ _ room, fine, le-ltb limit (length packet) d.short) (d.judged p (good-state store p fine).1).1

    does-passes : protected guard ss ≡ false → guarded_packet guard packet store p reply ≡ outcome (accepted end) store p reply
    unfolding guarded_packet
    does-passes free =
        rw verdict
        (ap (λ v. outcome v store p reply)
        (passes guard p packet values sound (accepted end)
        (λ c e. let q : end ≡ c = cc in rw (← q, steps_are) free)))

    does-stopped : protected guard ss ≡ true
        → (guarded_packet guard packet store p reply).answer ≡ Answer.refused 71 (protected_place guard p packet)
    unfolding guarded_packet outcome answer_to
    does-stopped some = rw (verdict, stopped guard p packet values sound end (rw steps_are some)) refl

  free-cell : touches guard unlock_cell 2 ≡ false
  free-cell = unlock-free guard values sound

  parted : (xs ys : List Step) → protected guard (xs ++ ys) ≡ false → (protected guard xs ≡ false) × (protected guard ys ≡ false)
  parted xs ys e = or_false (protected guard xs) _ (sym (protected-joined guard xs ys) ∙ e)

  all_pass : {packets : List (List ℕ)} {xs : List Step} → Holds packets xs → protected guard xs ≡ false → AllPass guard packets
  unfolding outcome answer_to is_accepted
  all_pass Holds.none free = tt
  all_pass (Holds.more {ss = ss} {xs = xs} {ys = ys} d m h) free =
      let (here, later) = parted xs ys free in
      let none = mixed-same guard free-cell m ∙ here in
      (λ store p reply fine room. rw (does-passes d store p reply fine room none) refl, all_pass h later)

  some-stopped : {packets : List (List ℕ)} {xs : List Step} → Holds packets xs → protected guard xs ≡ true → SomeStopped guard packets
  unfolding protected any_step
  some-stopped Holds.none e = let z : ◌≡◌ {A = ℕ} 0 1 = cc in absurd (omega arith)
  some-stopped (Holds.more {xs = xs} {ys = ys} d m h) e =
      ⊎_elim (λ here. inl (λ store p reply fine room. does-stopped d store p reply fine room (mixed-same guard free-cell m ∙ here)))
      (λ later. inr (some-stopped h later))
      (or_true (protected guard xs) _ (sym (protected-joined guard xs ys) ∙ e))

  -- a packet's run, and those after it
  abbrev followed : Outcome → Played → Played
  followed o r =
      record {
        accepted = is_accepted o.answer && r.accepted;
        replies = take (reply_length o.answer) o.reply ++ r.replies;
        store = r.store;
        pointers = r.pointers;
      }

  -- Played with the guard they do what they do without it.
  play-same : {packets : List (List ℕ)} {xs : List Step} → Holds packets xs → protected guard xs ≡ false
      → (store : List ℕ) (p : Pointers) (rooms : ℕ → List ℕ) → bad_state store p ≡ false → ((i : ℕ) → length (rooms i) ≡ limit)
      → guarded_play guard packets rooms store p ≡ play packets rooms store p
  unfolding guarded_play play outcome
  play-same Holds.none free store p rooms fine ok = refl
  play-same (Holds.more {packet = packet} {packets = packets} {ss = ss} {xs = xs} {ys = ys} d m h) free store p rooms fine ok =
      let (here, later) = parted xs ys free in
      let j = d.judged p (good-state store p fine).1 in
      let left = store_after j.0.steps store in
      let next = counted (cleared left) in
      let n : length next ≡ length store = length-counted (cleared left) ∙ length-cleared left ∙ length-after j.0.steps store in
      let again = state-again store next p j.0.pointers n j.3 fine in
      let later-rooms : ℕ → List ℕ = (λ i. rooms (suc i)) in
      let guarded = does-passes d store p (rooms 0) fine (ok 0) (mixed-same guard free-cell m ∙ here) in
      let plain = run_accepted packet store p (rooms 0) j.0 fine (ok 0) d.short j.1 in
      ap (λ (o : Outcome). followed o (guarded_play guard packets later-rooms o.store o.pointers)) guarded
      ∙ ap (followed (outcome (accepted j.0) store p (rooms 0)))
      (play-same h later next j.0.pointers later-rooms again (λ i. ok (suc i)))
      ∙ sym (ap (λ (o : Outcome). followed o (play packets later-rooms o.store o.pointers)) plain)

-- a list has one list of records
same-records : (list : List ℕ) {xs ys : List Step} → records_of list ≡ records xs → records_of list ≡ records ys → xs ≡ ys
same-records list e f = cc

-- Of a list that the guard lets pass, compiled: each packet passes, and demand 3 holds with guarded runs.
pub vetted : (guard list : List ℕ) (n : ℕ) → guarded_list guard list ≡ Answer.accepted (n ∷ []) → (room : List ℕ) (bytes count : ℕ)
    → (compiled list room).answer ≡ Answer.accepted (bytes ∷ count ∷ []) → GuardedDemand3 guard list (compiled list room).room bytes count
vetted guard list n e room bytes count a =
    let v = let_pass guard list n e in
    let d = demand3 list room bytes count a in
    let q : v.xs ≡ d.xs = same-records list v.list-records d.list-records in
    let free : protected guard d.xs ≡ false = rw q at v.free in
    let hold = packets_hold d.xs (records-good list d.xs d.list-records) in
    record {
      xs = d.xs;
      list-records = d.list-records;
      packets = d.packets;
      packet-count = d.packet-count;
      passes = all_pass guard v.values v.sound hold free;
      same =
          λ store p rooms fine ok.
          rw (play-same guard v.values v.sound hold free store p rooms fine ok) (d.same store p rooms fine ok);
    }

-- The same of every output that the checker of tighter packing accepts for it.
pub vetted_tight : (guard list : List ℕ) (n : ℕ) → guarded_list guard list ≡ Answer.accepted (n ∷ []) → (proposal : List ℕ) (count : ℕ)
    → Tight.checked list proposal ≡ Tight.accepted count → GuardedTight guard list proposal count
vetted_tight guard list n e proposal count a =
    let v = let_pass guard list n e in
    let t = accepted-is list proposal count a in
    let q : v.xs ≡ t.xs = same-records list v.list-records t.list-records in
    let free : protected guard t.xs ≡ false = rw q at v.free in
    let hold = rw t.same at (done-holds t.accepts t.set (no_info list proposal count t)) in
    record {
      xs = t.xs;
      list-records = t.list-records;
      packets = t.packets;
      taken-apart = t.sound;
      packet-count = t.packet-count;
      passes = all_pass guard v.values v.sound hold free;
      same =
          λ store p rooms fine ok.
          rw (play-same guard v.values v.sound hold free store p rooms fine ok)
          (run_all t.packets t.xs hold (records-good list t.xs t.list-records) store p rooms fine ok);
    }

-- A list that is refused with 71 has a packet that the guarded run refuses.
pub held-stopped : (guard list : List ℕ) (i : ℕ) → guarded_list guard list ≡ Answer.refused 71 i
    → (xs : List Step) × ((records_of list ≡ records xs) × SomeStopped guard (packed xs))
held-stopped guard list i e =
    let h = held_back_lem guard list i e in
    let hold = packets_hold h.xs (records-good list h.xs h.list-records) in
    (h.xs, (h.list-records, some-stopped guard h.values h.sound hold h.some))

-- And so has every output that the checker of tighter packing accepts for it.
pub held-stopped_tight : (guard list : List ℕ) (i : ℕ) → guarded_list guard list ≡ Answer.refused 71 i → (proposal : List ℕ) (count : ℕ)
    → Tight.checked list proposal ≡ Tight.accepted count
    → (packets : List (List ℕ)) × ((apart proposal ≡ frames packets) × SomeStopped guard packets)
held-stopped_tight guard list i e proposal count a =
    let h = held_back_lem guard list i e in
    let t = accepted-is list proposal count a in
    let q : h.xs ≡ t.xs = same-records list h.list-records t.list-records in
    let hold = rw t.same at (done-holds t.accepts t.set (no_info list proposal count t)) in
    (t.packets, (t.sound, some-stopped guard h.values h.sound hold (rw q at h.some)))
