-- Yes is said of what our card records, and of nothing else; a changed byte is named.
use Prim.Native.Nat.{ℕ, zero, suc, ◌+◌, ◌-◌, ◌≤◌, ◌<◌}
use mathlib.Core.Path.{◌≡◌, refl, sym, ap, ◌∙◌}
use mathlib.Core.Bool.{true, false}
use mathlib.Core.List.{List, [], ◌∷◌, ◌++◌, append-nil, append_assoc}
use native.Mathlib.Omega.{arith}
use lib.ListN.{length, get_or, set, replicate, length-append, length-set, length-replicate}
use borrow.Author.Tests.{eq-eqb, ne_eqb, lt-ltb}
use Rattle.lbp16.proofs.BoolLaws.{and_true}
use Rattle.lbp16.specs.declared.pointer.Pointers.{Pointers}
use Rattle.packet.specs.Command.{limit}
use Rattle.card.specs.Run.{Outcome, bad_state, run_packet}
use Rattle.cue.specs.Output.{framed, output_of, front_of}
use Rattle.cue.specs.Play.{is_accepted, play}
use Rattle.cue.specs.Compile.{packed}
use Rattle.cue.specs.Demand3.{Demand3}
use Rattle.cue.proofs.OutputLaws.{framed-bytes, framed-behind}
use Rattle.recording.specs.Recording.{found_pair, pair_left, front_pair, pair_at, yes, bad_byte}
use Rattle.recording.specs.Recording.{judged_from, judged_parts, judged_in, said, judged, stopped}
use Rattle.recording.specs.Recording
use Rattle.recording.specs.Show.{shown_run, reply_in, shown, recording_of}
use Rattle.recording.specs.declared.pair.Pair.{Pair}
use Rattle.recording.proofs.ReplyLaws.{wrong_set}
use Rattle.recording.proofs.ShowLaws.{shown-alike, room-kept, accepted-short, reply-short, pair-framed, behind-both}
use Rattle.recording.proofs.ShowLaws.{found-good, zero_rooms, zero_rooms_lem}

-- the packets are all accepted, and what they leave
abbrev pub Accepted : List (List ℕ) → List ℕ → Pointers → Type 0
Accepted packets store p = (play packets zero_rooms store p).accepted ≡ true

-- Judging what our card recorded of accepted packets comes to what stands behind it, in the state that they left.
pub record Past (packets : List (List ℕ)) (store : List ℕ) (p : Pointers) (room : List ℕ) (most fuel i at : ℕ) (rest : List ℕ) : Type 0
  where
    pub at' : ℕ
    pub room'' : List ℕ
    pub room-bytes : length room'' ≡ limit
    pub same : judged_from most i at (recording_of packets store p ++ rest) store p room
        ≡ judged_from fuel (length packets + i) at' rest (play packets zero_rooms store p).store
        (play packets zero_rooms store p).pointers
        room''

-- one packet with its reply, passed over
good-next : (packet tail store : List ℕ) (p : Pointers) (room : List ℕ) → length room ≡ limit
    → is_accepted (shown_run packet store p).answer ≡ true → (fuel i at : ℕ)
    → judged_from (suc fuel) i at (framed packet ++ (framed (reply_in (shown_run packet store p)) ++ tail)) store p room
    ≡ judged_from fuel (1 + i) (at + (8 + length packet + length (reply_in (shown_run packet store p)))) tail (shown_run packet store p).store
    (shown_run packet store p).pointers
    (run_packet packet store p room).reply
unfolding judged_from
good-next packet tail store p room l e fuel i at =
    let z = shown_run packet store p in
    let a = shown-alike packet store p room l in
    let ok = ap is_accepted a.answer ∙ e in
    let n = accepted-short packet store p room l ok in
    let m : length (reply_in z) ≤ limit = rw a.reply at (reply-short packet store p room l) in
    let k = 8 + length packet + length (reply_in z) in
    rw (
      pair-framed packet (reply_in z) tail store p room (omega arith) (omega arith) ok,
      a.reply,
      a.store,
      a.pointers,
      found-good (length packet) (reply_in z),
      ne_eqb k 0 (λ q. omega arith),
      behind-both (length packet) (length (reply_in z)) (framed packet ++ (framed (reply_in z) ++ tail)),
      framed-behind packet (framed (reply_in z) ++ tail) (omega arith),
      framed-behind (reply_in z) tail (omega arith),
    )
    refl

pub past : (packets : List (List ℕ)) (store : List ℕ) (p : Pointers) (room : List ℕ) → length room ≡ limit
    → Accepted packets store p → (most fuel i at : ℕ) → most ≡ length packets + fuel → (rest : List ℕ)
    → Past packets store p room most fuel i at rest
unfolding recording_of shown output_of play zero_rooms shown_run reply_in
past [] store p room l h most fuel i at e rest =
    let z : most ≡ fuel = omega arith in
    let y : 0 + i ≡ i = omega arith in
    record { at' = at; room'' = room; room-bytes = l; same = rw (z, y) refl }
past (packet ∷ packets) store p room l h zero fuel i at e rest = absurd (omega arith)
past (packet ∷ packets) store p room l h (suc most) fuel i at e rest =
    let o = shown_run packet store p in
    let ok = and_true (is_accepted o.answer) (play packets zero_rooms o.store o.pointers).accepted h in
    let r = (run_packet packet store p room).reply in
    let k = at + (8 + length packet + length (reply_in o)) in
    let more = past packets o.store o.pointers r (room-kept packet store p room l) ok.1 most fuel (1 + i) k (omega arith) rest in
    let z : length packets + (1 + i) ≡ suc (length packets) + i = omega arith in
    record {
      at' = more.at';
      room'' = more.room'';
      room-bytes = more.room-bytes;
      same =
          rw (append_assoc, append_assoc)
          (good-next packet (recording_of packets o.store o.pointers ++ rest) store p room l ok.0 most i at
          ∙ more.same
          ∙ rw z refl);
    }

-- a packet whose reply has one byte changed
changed_next : (packet tail store : List ℕ) (p : Pointers) (room : List ℕ) → length room ≡ limit → (o : Outcome)
    → o ≡ shown_run packet store p → is_accepted o.answer ≡ true → (k b : ℕ) → k < length (reply_in o)
    → (get_or (reply_in o) k 0 ≡ b → ⊥) → (fuel : ℕ) → 0 < fuel → (i at : ℕ)
    → (judged_from fuel i at (framed packet ++ (framed (set (reply_in o) k b) ++ tail)) store p room).verdict ≡ bad_byte i k
unfolding judged_from found_pair
changed_next packet tail store p room l o e ok k b within other zero some i at = absurd (omega arith)
changed_next packet tail store p room l o e ok k b within other (suc fuel) some i at =
    let a = shown-alike packet store p room l in
    let fine = ap is_accepted (a.answer ∙ ap (λ o. o.answer) (sym e)) ∙ ok in
    let expected = a.reply ∙ ap reply_in (sym e) in
    let n = accepted-short packet store p room l fine in
    let m : length (reply_in o) ≤ limit = rw expected at (reply-short packet store p room l) in
    let size = length-set (reply_in o) k b in
    rw (
      pair-framed packet (set (reply_in o) k b) tail store p room (omega arith) (omega arith) fine,
      expected,
      eq-eqb (length (set (reply_in o) k b)) (length (reply_in o)) size,
      wrong_set (reply_in o) k b within other,
      lt-ltb k (length (set (reply_in o) k b)) (omega arith),
    )
    refl

-- nothing left: yes
end-said : (fuel i at : ℕ) (store : List ℕ) (p : Pointers) (room : List ℕ)
    → judged_from fuel i at [] store p room ≡ stopped (yes i) at (pair_left Pair.End store p room)
unfolding judged_from pair_at front_pair front_of
end-said zero i at store p room = refl
end-said (suc fuel) i at store p room = refl

-- each packet takes bytes of its own
recording_bytes : (packets : List (List ℕ)) (store : List ℕ) (p : Pointers) → length packets ≤ length (recording_of packets store p)
unfolding recording_of shown output_of
recording_bytes [] store p = omega arith
recording_bytes (packet ∷ packets) store p =
    let o = shown_run packet store p in
    let tail = recording_of packets o.store o.pointers in
    omega (
      arith,
      framed-bytes packet (framed (reply_in o) ++ tail),
      framed-bytes (reply_in o) tail,
      recording_bytes packets o.store o.pointers,
    )

-- What the judge comes to behind accepted packets that our card recorded.
record Behind (packets : List (List ℕ)) (store : List ℕ) (p : Pointers) (rest : List ℕ) : Type 0 where
  fuel : ℕ
  enough : length rest < fuel
  at : ℕ
  room : List ℕ
  room-bytes : length room ≡ limit
  same : judged (recording_of packets store p ++ rest) store p
      ≡ said
      (judged_from fuel (length packets) at rest (play packets zero_rooms store p).store (play packets zero_rooms store p).pointers
      room)

module _ (packets : List (List ℕ)) (store : List ℕ) (p : Pointers) (state : bad_state store p ≡ false) (h : Accepted packets store p) where
  behind : (rest : List ℕ) → Behind packets store p rest
  unfolding judged judged_in judged_parts
  behind rest =
      let all = recording_of packets store p ++ rest in
      let l = recording_bytes packets store p in
      let n : length all ≡ length (recording_of packets store p) + length rest = length-append (recording_of packets store p) rest in
      let fuel = suc (length all) - length packets in
      let b = past packets store p (replicate limit 0) (length-replicate {A = ℕ} limit 0) h (suc (length all)) fuel 0 0 (omega arith) rest in
      let z : length packets + 0 ≡ length packets = omega arith in
      record {
        fuel = fuel;
        enough = omega arith;
        at = b.at';
        room = b.room'';
        room-bytes = b.room-bytes;
        same = rw (state, b.same, z) refl;
      }

  -- A recording that our card made of accepted packets is judged yes, and judging it leaves what playing them leaves.
  pub recorded-yes : ((judged (recording_of packets store p) store p).verdict ≡ yes (length packets))
      × ((judged (recording_of packets store p) store p).store ≡ (play packets zero_rooms store p).store)
      × ((judged (recording_of packets store p) store p).pointers ≡ (play packets zero_rooms store p).pointers)
  unfolding said
  recorded-yes =
      let b = behind [] in
      let e = b.same ∙ ap said (end-said b.fuel (length packets) b.at _ _ b.room) in
      let f = rw append-nil at e in
      (ap (λ s. s.verdict) f, ap (λ s. s.store) f, ap (λ s. s.pointers) f)

  -- One reply byte changed: that packet and that byte are named, whatever stands behind.
  pub changed_byte : (packet : List ℕ) (o : Outcome)
      → o ≡ shown_run packet (play packets zero_rooms store p).store (play packets zero_rooms store p).pointers
      → is_accepted o.answer ≡ true → (k b : ℕ) → k < length (reply_in o) → (get_or (reply_in o) k 0 ≡ b → ⊥) → (tail : List ℕ)
      → (judged (recording_of packets store p ++ (framed packet ++ (framed (set (reply_in o) k b) ++ tail))) store p).verdict
      ≡ bad_byte (length packets) k
  unfolding said
  changed_byte packet o e ok k b within other tail =
      let c = behind (framed packet ++ (framed (set (reply_in o) k b) ++ tail)) in
      ap (λ s. s.verdict) c.same
      ∙ changed_next packet tail _ _ c.room c.room-bytes o e ok k b within other c.fuel (omega (arith, c.enough)) (length packets) c.at

-- The show of a compiled list, recorded on our card, is judged yes.
pub compiled-yes : (list room : List ℕ) (bytes count : ℕ) (d : Demand3 list room bytes count) (store : List ℕ) (p : Pointers)
    → bad_state store p ≡ false → (judged (recording_of (packed d.xs) store p) store p).verdict ≡ yes count
compiled-yes list room bytes count d store p state =
    let same = d.same store p zero_rooms state zero_rooms_lem in
    (recorded-yes (packed d.xs) store p state same.accepted).0 ∙ ap yes (sym d.packet-count)

-- Refusal 1 comes before all else, and changes nothing.
pub refused-state : (recording store : List ℕ) (p : Pointers) → bad_state store p ≡ true
    → judged recording store p ≡ record { verdict = Recording.refused 1 0; at = 0; store = store; pointers = p }
unfolding judged judged_in said
refused-state recording store p e = rw e refl
