-- A call, as the code makes it.
use Prim.Native.Nat.{ℕ, zero, suc, ◌+◌, ◌*◌, ◌-◌, ◌≤◌, ◌<◌}
use mathlib.Core.Path.{◌≡◌, refl, sym, ap, ◌∙◌}
use mathlib.Core.List.{List, [], ◌∷◌, ◌++◌, append-nil}
use mathlib.Core.Bool.{Bool, true, false, cond, ◌&&◌}
use native.Mathlib.Omega.{arith}
use lib.Dec.{eqb, ltb}
use lib.ListN.{length, take, drop, get_or, length-append, length-take, length-drop, drop_of_length-le}
use lib.Seq.{take_all, drop_at, length-take-le}
use borrow.Author.Tests.{lt-ltb, le-ltb, eq-eqb, ne_eqb, ltb-false, eqb-false}
use Rattle.lbp16.specs.Answer.{refused}
use Rattle.cue.specs.Untrusted.{any_of}
use Rattle.cue.specs.declared.packer.Packer.{Packer}
use Rattle.cue.proofs.UntrustedLaws.{none_of}
use Rattle.parts.specs.Taking.{Stopped, called, part_taken, answer_by, answered}
use Rattle.parts.specs.State.{Held, held_packing, unopened, pair_at, packer_at, standing_of, state_of, bad_numbers, bad_state, bytes_of_state}
use Rattle.parts.specs.Parts.{PartCall, untouched, leaves, part_of, part_left}
use Rattle.parts.specs.Inside.{kept_at, meant, Sound, Ranged, Rooms, Stops}
use Rattle.packet.specs.Verdict.{verdict_listed}
use Rattle.std.specs.Prelude.{Err}
use Rattle.lbp16.specs.Answer.{accepted, rule_number}
use Rattle.lbp16.specs.declared.Refusal.{Refusal}
use Rattle.lbp16.specs.declared.Rule.{Rule}
use Rattle.parts.specs.declared.Part.{Part}
use Rattle.parts.specs.declared.state.Kept.{Kept}
use Rattle.parts.specs.declared.take.Stop.{Stop}
use Rattle.parts.proofs.PartLaws.{stands-going}

-- what is kept of a good state is in range
packer-sound : (s : List ℕ) → (packer_at s).space ≤ 7 → (packer_at s).count ≤ 127 → (packer_at s).reply ≤ 1472
    → (packer_at s).end ≤ 1476 → (packer_at s).word ≤ (packer_at s).packet → Sound (packer_at s)
unfolding packer_at unopened
packer-sound s = go (eqb (pair_at s 22) 0) refl
  where
    some : Packer
    some =
        record {
          write = eqb (get_or s 16 0) 1;
          space = get_or s 17 0;
          address = pair_at s 18;
          count = get_or s 20 0;
          packet = pair_at s 22;
          reply = pair_at s 24;
          unlocked = eqb (get_or s 21 0) 1;
          unlock = false;
          frame = 0;
          word = pair_at s 26;
          end = 4 + pair_at s 22;
          packets = 1;
        }

    go : (b : Bool) → eqb (pair_at s 22) 0 ≡ b → let p = cond b unopened some in
        p.space ≤ 7 → p.count ≤ 127 → p.reply ≤ 1472 → p.end ≤ 1476 → p.word ≤ p.packet → Sound p
    go true z a b c d e = Sound.unopened false refl
    go false z a b c d e =
        let n = eqb-false (pair_at s 22) 0 z in
        Sound.alone
        (record {
          frame = refl;
          end = refl;
          packets = refl;
          packet = omega arith;
          some = omega arith;
          word = e;
          reply = c;
          count = b;
          space = a;
        })

abbrev bad_tests : List ℕ → List Bool
bad_tests s = bad_numbers (get_or s 0 0) (get_or s 1 0) (pair_at s 12 + 65536 * pair_at s 14) (packer_at s)

fault-known : (n : ℕ) → (ltb 1 n && ltb n 21) ≡ false → 1 < n → 21 ≤ n
fault-known n e h = ltb-false _ _ (rw (lt-ltb 1 n h) at e)

pub tests-ranged : (s : List ℕ) → length s ≡ 1504 → any_of (bad_tests s) ≡ false → Ranged (kept_at s)
unfolding bad_numbers kept_at
tests-ranged s l b =
    let (high, (known, (many, (most, (space, (count, (reply, (end, (word, _))))))))) = none_of (bad_tests s) b in
    record {
      stands = ltb-false _ _ high;
      known = fault-known _ known;
      collected = ltb-false _ _ many;
      bytes = rw (length-take, length-drop, l) refl;
      index = ltb-false _ _ most;
      sound =
          packer-sound s (ltb-false _ _ space) (ltb-false _ _ count) (ltb-false _ _ reply) (ltb-false _ _ end) (ltb-false _ _ word);
    }

module _ (state part : List ℕ) (last : Bool) (out : List ℕ) where
  abbrev x : PartCall
  x = part_of state part last out

  pub no_room : length out < 1476
      → part_left (Err (record { rule = Rule.Room; place = 1476 })) 0 state out ≡ x
  unfolding part_of untouched verdict_listed part_left
  no_room h = rw (lt-ltb _ _ h) refl

  module _ (wide : 1476 ≤ length out) where
    bad-is : bad_state state ≡ true → x ≡ untouched (refused 1 0) state out
    unfolding part_of
    bad-is b = rw (le-ltb (length out) 1476 wide, b) refl

    turned-away : (r : Part) → r ≡ record { answer = Err (record { rule = Rule.State; place = 0 }); taken = 0 } → bad_state state ≡ true
        → part_left r.answer r.taken state out ≡ x
    unfolding untouched part_left verdict_listed
    turned-away r d b = rw (bad-is b, d) refl

    pub other_length : (r : Part) → (length state ≡ 1504 → ⊥) → r ≡ record { answer = Err (record { rule = Rule.State; place = 0 }); taken = 0 }
        → part_left r.answer r.taken state out ≡ x
    unfolding bad_state
    other_length r h d = turned-away r d (rw (ne_eqb (length state) 1504 h) refl)

    -- a state of the right length, and what the code finds there
    module _ (long : length state ≡ 1504) (k : Kept) (e : k ≡ kept_at state) (b : Bool)
        (d : b ≡ any_of (bad_numbers k.stands k.collected k.index k.packer)) where
      tests : b ≡ any_of (bad_tests state)
      unfolding kept_at
      tests = d ∙ ap (λ (k : Kept). any_of (bad_numbers k.stands k.collected k.index k.packer)) e

      bad-state : bad_state state ≡ b
      unfolding bad_state
      bad-state = rw (eq-eqb (length state) 1504 long) (sym tests)

      pub bad-numbers : (r : Part) → b ≡ true → r ≡ record { answer = Err (record { rule = Rule.State; place = 0 }); taken = 0 }
          → part_left r.answer r.taken state out ≡ x
      bad-numbers r t d = turned-away r d (bad-state ∙ t)

      module _ (good : b ≡ false) where
        pub kept-ranged : Ranged k
        kept-ranged = rw e (tests-ranged state long (sym tests ∙ good))

        pub state-is : state_of state ≡ meant k (drop 28 state)
        unfolding state_of meant kept_at
        state-is = rw e refl

        pub call-is : x ≡ leaves (called held_packing (meant k (drop 28 state)) part last) (eqb k.stands 0) state out
        unfolding part_of meant
        call-is = rw (le-ltb (length out) 1476 wide, bad-state, good, state-is, stands-going) refl

        pub stands_already : (k.stands ≡ 0 → ⊥) → (r : Part)
            → (verdict_listed r.answer ≡ answer_by (standing_of k.stands) k.index 0) × (r.taken ≡ 0)
            → part_left r.answer r.taken state out ≡ x
        unfolding leaves called meant answered part_left
        stands_already z r (h, t) =
            rw (call-is, stands-going, ne_eqb k.stands 0 z) (λ i. record { answer = h i; taken = t i; state = state; room = out })

        -- the open packet's room, lent and back
        lent-room : take (length state - 28) (drop 28 state) ≡ drop 28 state
        lent-room = take_all (length state - 28) (drop 28 state) (rw length-drop (omega arith))

        pub part-rooms : Rooms (take (length state - 28) (drop 28 state)) out
        part-rooms = record { held = rw (lent-room, length-drop, long) refl; lent = wide }

        module _ (z : k.stands ≡ 0) (s : Stop) (room out₂ : List ℕ)
            (h : Stops (part_taken held_packing (meant k (take (length state - 28) (drop 28 state))) part last) s room out₂ out) where
          room_back : drop 28 (take 28 state ++ (room ++ drop (length state - 28) (drop 28 state))) ≡ room
          room_back =
              let n : length (take 28 state) ≡ 28 = length-take-le 28 state (omega arith) in
              let e : drop (length state - 28) (drop 28 state) ≡ [] =
              drop_of_length-le (drop 28 state) {i = length state - 28} (rw length-drop (omega arith)) in
              drop_at (take 28 state) _ 28 n ∙ rw e (append-nil room)

          pub save_fits : length (take 28 state ++ (room ++ drop (length state - 28) (drop 28 state))) ≡ 1504
          save_fits =
              let r = h.left.rooms.held in
              simp (length-append, length-take, length-drop, long, r) refl

          abbrev p : Stopped Held
          p = part_taken held_packing (meant k (drop 28 state)) part last

          left_is : Stops p s room out₂ out
          left_is = rw lent-room at h

          call-part : x ≡ leaves p true state out
          unfolding called meant
          call-part = call-is ∙ rw (stands-going, eq-eqb k.stands 0 z) refl

          pub part_left_lem : (state₂ : List ℕ)
              → state₂ ≡ bytes_of_state (meant s.kept (drop 28 (take 28 state ++ (room ++ drop (length state - 28) (drop 28 state)))))
              → (r : Part)
              → (verdict_listed r.answer ≡ answer_by (standing_of s.kept.stands) s.kept.index s.written)
              × (r.taken ≡ s.taken)
              → part_left r.answer r.taken state₂ out₂ ≡ x
          unfolding leaves meant answered part_left
          part_left_lem state₂ f r (g, t) =
              let l = left_is.left in
              let said : answer_by (standing_of s.kept.stands) s.kept.index s.written ≡ answered p.left =
              rw (← l.state, ← l.written) refl in
              let answer = g ∙ said in
              let state' : state₂ ≡ bytes_of_state p.left.state = f ∙ rw room_back (ap bytes_of_state l.state) in
              rw call-part
              (λ i. record { answer = answer i; taken = (t ∙ left_is.taken) i; state = state' i; room = l.handed i })

-- the answer by what stands
answer-fault : (stands index written : ℕ) → 1 < stands → refused stands index ≡ answer_by (standing_of stands) index written
unfolding answer_by standing_of
answer-fault zero index written h = absurd (omega arith)
answer-fault (suc zero) index written h = absurd (omega arith)
answer-fault (suc (suc n)) index written h = refl

pub answer-written : (stands index written : ℕ) → stands ≤ 1
    → accepted (written ∷ []) ≡ answer_by (standing_of stands) index written
unfolding answer_by standing_of
answer-written zero index written h = refl
answer-written (suc zero) index written h = refl
answer-written (suc (suc n)) index written h = absurd (omega arith)

pub answer-refused : (rule : Rule) (stands index written : ℕ) → rule_number rule ≡ stands → 1 < stands → (r : Refusal)
    → r ≡ record { rule = rule; place = index } → verdict_listed (Err r) ≡ answer_by (standing_of stands) index written
unfolding verdict_listed
answer-refused rule stands index written e h r d = rw (d, e) (answer-fault stands index written h)
