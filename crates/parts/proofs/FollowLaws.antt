-- Any sequence of calls follows the packing rule's calls, which stand somewhere in the list.
use Prim.Native.Nat.{ℕ, ◌+◌, ◌≤◌, ◌<◌}
use mathlib.Core.Path.{◌≡◌, refl, sym, ap, ◌∙◌}
use mathlib.Core.Logic.{◌⊎◌, inl, inr}
use mathlib.Core.List.{List, [], ◌∷◌, ◌++◌, append_assoc, append-nil}
use mathlib.Core.Bool.{Bool, true, false, cond}
use native.Mathlib.Omega.{arith}
use native.Mathlib.Decide.{dec_le}
use lib.Dec.{ltb}
use lib.ListN.{length, take, drop, replicate}
use lib.Seq.{drop-drop, drop-append-le, take-append_seam}
use borrow.Author.Tests.{lt-ltb, le-ltb}
use Rattle.lbp16.specs.Answer.{Answer}
use Rattle.lbp16.proofs.ListLaws.{none_left}
use Rattle.packet.specs.Step.{Step}
use Rattle.cue.specs.Records.{Listed, records, refused, records_of, records_from}
use Rattle.cue.specs.Packing.{Command, packets}
use Rattle.packet.specs.Bytes.{number}
use Rattle.cue.specs.Summary.{summary}
use Rattle.cue.specs.Compile.{bytes_of_output}
use Rattle.parts.specs.Taking.{State, Standing, going, ended, faulted, Taken, Stopped, is_going, called, answer_by, answered, fresh}
use Rattle.parts.specs.Rule.{Opened, none, packing_rule, last_of, closed_from, good_from, good_records, packets_by, packets_of}
use Rattle.parts.specs.State.{Held, held_packing, unopened, pair_at, packer_at, standing_of, state_of, bad_numbers, bad_state, bytes_of_state}
use Rattle.cue.specs.Output.{frame_room}
use Rattle.parts.specs.Parts.{untouched, leaves, part_of}
use Rattle.parts.specs.Promise.{fresh_state, bytes_written, written, Continues, rule_after, Calls, AsRule, Goes, Fails, Writes}
use Rattle.parts.proofs.ListLaws.{with_records, with_records_lem, with_refused, packets_are, open_after, closed-append}
use Rattle.parts.proofs.Reached.{Reached, Here, begun, reached-call}
use Rattle.parts.proofs.AlikeLaws.{Alike, AlikeStopped, answered-same, call-alike}
use Rattle.parts.proofs.SameLaws.{Same, same_first, same_turn, same-last}
use Rattle.parts.proofs.KeepLaws.{InRange, Quiet, call_le, call-range, call-quiet, said-end}
use Rattle.parts.proofs.RoundLaws.{alike-again}

-- The packing rule's state `s` is where the calls are.
pub record Follows (list : List ℕ) (at : ℕ) (state out : List ℕ) (s : State Opened) : Type 0 where
  pub reached : Reached list (drop at list) s out
  pub alike : Alike Same s (state_of state)
  pub range : InRange s
  pub fine : bad_state state ≡ false

-- what a call answers where its room is wide enough and its state good
module _ (state part : List ℕ) (last : Bool) (room : List ℕ) (fine : bad_state state ≡ false) where
  abbrev q : Stopped Held
  q = called held_packing (state_of state) part last

  pub wide-call : frame_room ≤ length room → part_of state part last room ≡ leaves q (is_going (state_of state).standing) state room
  unfolding part_of
  wide-call h = rw (le-ltb (length room) frame_room h, fine) refl

  pub narrow-call : length room < frame_room → part_of state part last room ≡ untouched (Answer.refused 26 frame_room) state room
  unfolding part_of
  narrow-call h = rw (lt-ltb (length room) frame_room h) refl

-- before the first call
fresh-state : state_of fresh_state
    ≡ record { standing = going; index = 0; collected = []; packet = record { packer = unopened; room = replicate 1476 0 } }
unfolding fresh_state state_of standing_of pair_at number packer_at
fresh-state = refl

fresh-good : bad_state fresh_state ≡ false
unfolding bad_state fresh_state bad_numbers pair_at number packer_at unopened summary
fresh-good = refl

first-follows : (list : List ℕ) → Follows list 0 fresh_state [] (fresh none)
unfolding fresh
first-follows list =
    record {
      reached = begun list;
      alike = record { packet = _; state = fresh-state; same = same_first (replicate 1476 0) refl };
      range = record { few = omega arith; short = omega arith; known = tt };
      fine = fresh-good;
    }

-- what a call hands out is what stands at the room's front
out_written : {P : Type 0} (t : Taken P) (room : List ℕ) → Quiet t → take (bytes_written (answered t)) (t.out ++ room) ≡ t.out
unfolding answered answer_by bytes_written
out_written t room h = go t.state.standing h
  where
    go : (k : Standing) → ((n : ℕ) → k ≡ faulted n → t.out ≡ [])
        → take (bytes_written (answer_by k t.state.index (length t.out))) (t.out ++ room) ≡ t.out
    go going h = take-append_seam t.out room
    go ended h = take-append_seam t.out room
    go (faulted n) h = sym (h n refl)

-- the next call
module _ (list : List ℕ) (at : ℕ) (state out : List ℕ) (s : State Opened) (f : Follows list at state out s) (part : List ℕ)
    (last : Bool) (room : List ℕ) where
  abbrev c : Stopped Opened
  c = called packing_rule s part last

  abbrev h : Stopped Held
  h = called held_packing (state_of state) part last

  alike-call : AlikeStopped Same c h
  alike-call = call-alike Same packing_rule held_packing same_turn same-last s (state_of state) part last f.alike

  pub same_answer : answered c.left ≡ answered h.left
  same_answer = answered-same Same c.left h.left alike-call.left

  -- answers, takes and hands out what the packing rule's does
  pub as_rule : frame_room ≤ length room → AsRule c (part_of state part last room)
  unfolding leaves written
  as_rule l =
      rw (wide-call state part last room f.fine l)
      (record {
        answer = sym same_answer;
        taken = sym alike-call.taken;
        packet =
            out_written h.left (drop (length h.left.out) room) (call-quiet held_packing (state_of state) part last)
            ∙ sym alike-call.left.out;
      })

  still : is_going (state_of state).standing ≡ false → h.left.state ≡ state_of state
  unfolding called
  still g = rw g refl

  pub state-next : (g : Bool) → is_going (state_of state).standing ≡ g
      → let t = cond g (bytes_of_state h.left.state) state in (bad_state t ≡ false) × Alike Same c.left.state (state_of t)
  state-next true g =
      alike-again c.left.state h.left.state (call-range packing_rule s part last f.range) alike-call.left.state
  state-next false g = (f.fine, rw (still g) at alike-call.left.state)

  -- where its part continues the list
  module _ (n : Continues list at part last) where
    reached-next : Reached list (drop c.taken part ++ n.rest) c.left.state (out ++ c.left.out)
    reached-next = reached-call list n.rest out part last s (rw n.follows at f.reached) n.whole

    left-next : drop (at + c.taken) list ≡ drop c.taken part ++ n.rest
    left-next =
        rw (← drop-drop c.taken at list, n.follows) (drop-append-le c.taken part n.rest (call_le packing_rule s part last))

    wide-next : frame_room ≤ length room → let x = part_of state part last room in
        Follows list (at + x.taken) x.state (out ++ written x) c.left.state
    unfolding leaves
    wide-next l =
        let a = as_rule l in
        let k = state-next (is_going (state_of state).standing) refl in
        rw (a.packet, a.taken, wide-call state part last room f.fine l)
        (record {
          reached = rw left-next reached-next;
          alike = k.1;
          range = call-range packing_rule s part last f.range;
          fine = k.0;
        })

    narrow_next : length room < frame_room → let x = part_of state part last room in
        Follows list (at + x.taken) x.state (out ++ written x) s
    unfolding untouched written bytes_written
    narrow_next l =
        let z : at + 0 ≡ at = omega arith in
        rw (narrow-call state part last room f.fine l, append-nil, z) f

    pub next-follows : let x = part_of state part last room in
        Follows list (at + x.taken) x.state (out ++ written x) (rule_after s part last room)
    unfolding rule_after
    next-follows = go (dec_le frame_room (length room))
      where
        go : Dec (frame_room ≤ length room) → let x = part_of state part last room in
            Follows list (at + x.taken) x.state (out ++ written x) (cond (ltb (length room) frame_room) s c.left.state)
        go (yes l) = rw (le-ltb (length room) frame_room l) (wide-next l)
        go (no l) = let l₂ : length room < frame_room = omega arith in rw (lt-ltb (length room) frame_room l₂) (narrow_next l₂)

    -- what the call answers
    module _ (wide : frame_room ≤ length room) where
      answer-is : (part_of state part last room).answer ≡ answered c.left
      answer-is = (as_rule wide).answer

      said : last ≡ true → c.left.state.standing ≡ going → length c.left.out ≡ 0 → ⊥
      said e g z = said-end packing_rule s part (rw e at g) (rw e at z)

      -- with nothing handed out, what was out before is all
      all-before : (css : List (List Command)) → out ++ c.left.out ≡ bytes_of_output css → c.left.out ≡ [] → packets_of list ≡ css
          → out ≡ bytes_of_output (packets_of list)
      all-before css b z e = sym (append-nil out) ∙ rw z at b ∙ ap bytes_of_output (sym e)

      pub goes : (xs : List Step) → records_of list ≡ records xs → Goes list state out part last room
      unfolding answered answer_by packets_of packets_by
      goes xs e = go c.left.state.standing refl reached-next.here
        where
          css : List (List Command)
          css = reached-next.css

          go : (k : Standing) → c.left.state.standing ≡ k → Here list (drop c.taken part ++ n.rest) c.left.state css k
              → Goes list state out part last room
          go going g r =
              record {
                bytes = length c.left.out;
                answer = answer-is ∙ rw g refl;
                all-out = λ l z. absurd (said l g z);
              }
          go ended g r =
              let (ys, listed, all) = r in
              let q : packets_of list ≡ css = rw listed (sym all) in
              record {
                bytes = length c.left.out;
                answer = answer-is ∙ rw g refl;
                all-out = λ l z. all-before css reached-next.bytes (none_left _ z) q;
              }
          go (faulted k) g r =
              let z : refused k c.left.state.index ≡ records xs = sym r.0 ∙ e in
              let y : ◌≡◌ {A = ℕ} 0 1 = cc in
              absurd (omega arith)

      pub fails : (m i : ℕ) → records_of list ≡ refused m i
          → Fails list state out part last room m i ⊎ Writes state part last room
      unfolding answered answer_by packets_of packets_by
      fails m i e = go c.left.state.standing refl reached-next.here
        where
          css : List (List Command)
          css = reached-next.css

          go : (k : Standing) → c.left.state.standing ≡ k → Here list (drop c.taken part ++ n.rest) c.left.state css k
              → Fails list state out part last room m i ⊎ Writes state part last room
          go going g r =
              inr
              (record {
                bytes = length c.left.out;
                answer = answer-is ∙ rw g refl;
                some = λ l. let h = said l g in omega arith;
              })
          go ended g r =
              let (ys, listed, all) = r in
              let z : refused m i ≡ records ys = sym e ∙ listed in
              let y : ◌≡◌ {A = ℕ} 0 1 = cc in
              absurd (omega arith)
          go (faulted k) g r =
              let z : refused m i ≡ refused k c.left.state.index = sym e ∙ r.0 in
              let a : m ≡ k = cc in
              let b : i ≡ c.left.state.index = cc in
              let q : packets_of list ≡ css = rw r.0 (sym r.1) in
              inl
              (record {
                answer = answer-is ∙ rw (g, a, b) refl;
                all-out = all-before css reached-next.bytes (call-quiet packing_rule s part last k g) q;
              })

      -- accepted, with the end said and nothing written: the list is good, and all of it was out before
      pub at-end : last ≡ true → (part_of state part last room).answer ≡ Answer.accepted (0 ∷ [])
          → (xs : List Step) × (records_of list ≡ records xs) × (out ≡ bytes_of_output (packets xs))
      unfolding answered answer_by
      at-end l e = go c.left.state.standing refl reached-next.here (sym answer-is ∙ e)
        where
          css : List (List Command)
          css = reached-next.css

          go : (k : Standing) → c.left.state.standing ≡ k → Here list (drop c.taken part ++ n.rest) c.left.state css k
              → answer_by k c.left.state.index (length c.left.out) ≡ Answer.accepted (0 ∷ [])
              → (xs : List Step) × (records_of list ≡ records xs) × (out ≡ bytes_of_output (packets xs))
          go going g r a = let z : length c.left.out ≡ 0 = cc in absurd (said l g z)
          go ended g r a =
              let z : length c.left.out ≡ 0 = cc in
              let (xs, listed, all) = r in
              let none : c.left.out ≡ [] = none_left _ z in
              let o : out ≡ bytes_of_output css = sym (append-nil out) ∙ rw none at reached-next.bytes in
              (xs, listed, o ∙ ap bytes_of_output all)
          go (faulted k) g r a = let z : ◌≡◌ {A = ℕ} 0 1 = cc in absurd (omega arith)

-- what is still to come, by what stands
front_by : (list left : List ℕ) (s : State Opened) (css : List (List Command)) (k : Standing) → Here list left s css k
    → (later : List (List Command)) × (packets_of list ≡ css ++ later)
unfolding packets_of packets_by
front_by list left s css going h = go (records_from h.fuel s.index (s.collected ++ left)) h.listed
  where
    ys : List Step
    ys = good_from h.fuel s.index (s.collected ++ left)

    go : (v : Listed) → records_of list ≡ with_records h.xs v
        → (later : List (List Command)) × (packets_by (records_of list) (good_records list) ≡ css ++ later)
    go (records zs) e = (
      closed_from (open_after none h.xs) zs ++ last_of (open_after none (h.xs ++ zs)),
      rw (e, with_records_lem, packets_are, closed-append, h.closed, append_assoc) refl,
    )
    go (refused n i) e =
        (closed_from (open_after none h.xs) ys, rw (e, with_refused, h.good, closed-append, h.closed) refl)
front_by list left s css ended h = let (xs, e, a) = h in ([], rw (e, a, append-nil) refl)
front_by list left s css (faulted n) h = ([], rw (h.0, append-nil) (sym h.1))

-- The packets that are out, and those still to come.
pub record Placed (list out : List ℕ) : Type 0 where
  pub packets : List (List Command)
  pub later : List (List Command)
  pub bytes : out ≡ bytes_of_output packets
  pub front : packets_of list ≡ packets ++ later

pub placed : {list : List ℕ} {at : ℕ} {state out : List ℕ} {s : State Opened} → Follows list at state out s → Placed list out
placed {list} {at} {state} {out} {s} f =
    let r = f.reached in
    let (later, e) = front_by list (drop at list) s r.css s.standing r.here in
    record { packets = r.css; later = later; bytes = r.bytes; front = e }

pub calls_follow : {list : List ℕ} {at : ℕ} {state out : List ℕ} {s : State Opened} → Calls list at state out s
    → Follows list at state out s
calls_follow {list} Calls.none = first-follows list
calls_follow {list} (Calls.more {at} {state} {out} {s} part last room c n) =
    next-follows list at state out s (calls_follow c) part last room n

-- as many bytes are written as are answered
size-written : {P : Type 0} (t : Taken P) → Quiet t → length t.out ≡ bytes_written (answered t)
unfolding answered answer_by bytes_written
size-written t h = go t.state.standing h
  where
    go : (k : Standing) → ((n : ℕ) → k ≡ faulted n → t.out ≡ [])
        → length t.out ≡ bytes_written (answer_by k t.state.index (length t.out))
    go going h = refl
    go ended h = refl
    go (faulted n) h = rw (h n refl) refl

pub written-size : (state part : List ℕ) (last : Bool) (room : List ℕ) → bad_state state ≡ false → frame_room ≤ length room
    → length (written (part_of state part last room)) ≡ bytes_written (part_of state part last room).answer
unfolding leaves written
written-size state part last room fine w =
    let q = called held_packing (state_of state) part last in
    let quiet = call-quiet held_packing (state_of state) part last in
    rw (wide-call state part last room fine w, out_written q.left (drop (length q.left.out) room) quiet)
    (size-written q.left quiet)
