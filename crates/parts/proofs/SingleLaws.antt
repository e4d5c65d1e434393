-- A part of one byte.
use Prim.Native.Nat.{ℕ, zero, suc, ◌+◌, ◌*◌, ◌/◌, ◌-◌, ◌^◌, ◌≤◌, ◌<◌}
use mathlib.Core.Path.{◌≡◌, refl, sym, ◌∙◌}
use mathlib.Core.List.{List, [], ◌∷◌, ◌++◌}
use mathlib.Core.Bool.{Bool, true, false, not, ◌||◌, ◌&&◌, cond}
use native.Mathlib.Omega.{arith}
use lib.Dec.{eqb, ltb}
use lib.ListN.{length, take, drop, get_or, set, length-append}
use borrow.Author.Tests.{lt-ltb, le-ltb, eq-eqb, ne_eqb, eqb-true, eqb-false, ltb-true, ltb-false, leb-false, not-false}
use Rattle.lbp16.specs.Answer.{accepted}
use Rattle.lbp16.proofs.BoolLaws.{or_false}
use Rattle.packet.specs.Bytes.{number}
use Rattle.packet.specs.Command.{pick_kind}
use Rattle.packet.specs.Rules.{first}
use Rattle.packet.proofs.RuleLaws.{none-holds}
use Rattle.cue.specs.Untrusted.{any_of, turned_within, put_within}
use Rattle.cue.proofs.PackingLaws.{record_bytes_le}
use Rattle.cue.proofs.UntrustedLaws.{none_of}
use Rattle.cue.specs.Records.{mark_at, read_mark, write_mark, record_kind, record_bytes, record_step, record_refusals, most_records}
use Rattle.cue.specs.Records.{record_at}
use Rattle.cue.specs.declared.records.Record.{Record}
use Rattle.cue.specs.declared.packer.Packer.{Packer}
use Rattle.cue.proofs.ReadingLaws.{passing}
use Rattle.parts.specs.Taking.{unknown_mark, decided_at, byte_taken, bytes_taken, one_more, is_going, goes_on, part_taken, called, answer_by, answered}
use Rattle.parts.specs.State.{held_packing, padded, pair_at, packer_at, standing_of, state_of, bad_numbers, bytes_of_state}
use Rattle.cue.specs.Output.{frame_room}
use Rattle.parts.specs.Parts.{leaves, part_of, part_left}
use Rattle.parts.specs.Inside.{kept_at, meant, Ranged, Leaves, Stops, unfit_tests, Marked, Waits, Single}
use Rattle.packet.specs.Verdict.{verdict_listed}
use Rattle.std.specs.Prelude.{Ok}
use Rattle.parts.specs.declared.Part.{Part}
use Rattle.parts.specs.declared.state.Kept.{Kept}
use Rattle.parts.proofs.TidyLaws.{number-below, shifted-below, longer, bytes-longer, collected-length, state-again}
use Rattle.parts.proofs.StateLaws.{padded-is}
use Rattle.parts.proofs.TakeLaws.{decided_early, decided-late, turns_open, record_leaves}
use Rattle.parts.proofs.ByteLaws.{shown-length, byte_at, byte_record}
use Rattle.parts.proofs.PartLaws.{stands-going}
use Rattle.parts.proofs.CallLaws.{call-is, kept-ranged, part-rooms, save_fits, part_left_lem}

pub no_true : {A : Type 0} → false ≡ true → A
no_true e = let z : ◌≡◌ {A = ℕ} 0 1 = cc in absurd (omega arith)

-- bytes as the code reads them
pub behind-is : (s : List ℕ) → length s ≡ 1504 → (n : ℕ)
    → n
    ≡ get_or s 4 0 + get_or s 5 0 * 256 + get_or s 6 0 * 65536 + get_or s 7 0 * 16777216 + get_or s 8 0 * 4294967296
    + get_or s 9 0 * 1099511627776
    + get_or s 10 0 * 281474976710656
    + get_or s 11 0 * 72057594037927936
    → n ≡ number (take 8 (drop 4 s))
unfolding number padded
behind-is s l n e = e ∙ rw (padded-is 8 4 s (omega arith)) (omega arith)

room-is : (s : List ℕ) → length s ≡ 1504 → take 10 (drop 2 s) ≡ get_or s 2 0 ∷ get_or s 3 0 ∷ take 8 (drop 4 s)
unfolding padded
room-is s l = rw (padded-is 10 2 s (omega arith), padded-is 8 4 s (omega arith)) refl

-- a mark that the code knows, of a write or of a read
abbrev pub mark_of : Bool → ℕ
mark_of w = cond w write_mark read_mark

known-mark : (w : Bool) → ((not (eqb (mark_of w) read_mark) && not (eqb (mark_of w) write_mark)) ≡ false) × (eqb (mark_of w) write_mark ≡ w)
known-mark true = (refl, refl)
known-mark false = (refl, refl)

pub marked : (w : Bool) (mark at last : ℕ) → last + 1 ≡ record_bytes (pick_kind w) → mark ≡ mark_of w → ltb at last ≡ true
    → Marked mark at
marked w mark at last n e t =
    let (known, kind) = known-mark w in
    let h = ltb-true at last t in
    record { known = rw e known; longer = rw (e, kind) (omega arith) }

pub marked-few : {mark at : ℕ} → Marked mark at → at ≤ 8
marked-few {mark} m = omega (arith, m.longer, record_bytes_le (pick_kind (eqb mark write_mark)))

-- whether the record with one byte more waits for others
module _ (x y : ℕ) (ys : List ℕ) (b : ℕ) where
  waits-none : x ≡ 0 → y ≡ 0 → number ys ≡ 0 → Waits 0 (x ∷ y ∷ ys) b
  unfolding number
  waits-none p q r =
      record {
        few = omega arith;
        behind = omega arith;
        waits = λ index few. let d = decided_early index (mark_at (b ∷ [])) (b ∷ []) refl few refl in omega arith;
      }

  waits_one : y ≡ 0 → number ys ≡ 0 → Marked (x + 256 * b) 1 → Waits 1 (x ∷ y ∷ ys) b
  unfolding number mark_at
  waits_one q r m =
      record {
        few = omega arith;
        behind = omega arith;
        waits =
            λ index few.
            let e : x + 256 * b ≡ mark_at (x ∷ b ∷ []) = omega arith in
            let d = decided-late index (x + 256 * b) (x ∷ b ∷ []) e few _ m.known refl in
            omega (arith, m.longer);
      }

  waits-more : (k : ℕ) → number ys < 2 ^ (8 * k) → Marked (x + 256 * y) (suc (suc k)) → Waits (suc (suc k)) (x ∷ y ∷ ys) b
  unfolding number mark_at
  waits-more k h m =
      record {
        few = marked-few m;
        behind = number-below k ys h;
        waits =
            λ index few.
            let rest = x ∷ y ∷ (take k ys ++ (b ∷ [])) in
            let e : x + 256 * y ≡ mark_at rest = omega arith in
            let d = decided-late index (x + 256 * y) rest e few _ (rw (le-ltb (length rest) 2 (omega arith)) m.known) refl in
            omega (arith, m.longer);
      }

-- the same of a state's bytes, by the tests that the code makes; `y`: those behind the mark
module _ (s : List ℕ) (l : length s ≡ 1504) (b y : ℕ) (e : y ≡ number (take 8 (drop 4 s))) where
  abbrev Waiting : Type 0
  Waiting = Waits (get_or s 1 0) (take 10 (drop 2 s)) b

  module _ (t : (not (eqb y 0) || not (eqb (get_or s 3 0) 0)) ≡ false) where
    none-behind : number (take 8 (drop 4 s)) ≡ 0
    none-behind = sym e ∙ eqb-true _ _ (not-false _ (or_false (not (eqb y 0)) _ t).0)

    none-third : get_or s 3 0 ≡ 0
    none-third = eqb-true _ _ (not-false _ (or_false (not (eqb y 0)) _ t).1)

    pub waits-first : get_or s 1 0 ≡ 0 → eqb (get_or s 2 0) 0 ≡ true → Waiting
    waits-first a z = rw (a, room-is s l) (waits-none _ _ _ b (eqb-true _ _ z) none-third none-behind)

    pub waits-second : get_or s 1 0 < 2 → (get_or s 1 0 ≡ 0 → ⊥) → Marked (get_or s 2 0 + 256 * b) (get_or s 1 0) → Waiting
    waits-second h z m =
        let a : get_or s 1 0 ≡ 1 = omega arith in
        rw (a, room-is s l) (waits_one _ _ _ b none-third none-behind (rw a at m))

  mark-is : (mark : ℕ) → mark ≡ number (take 2 (drop 2 s)) → mark ≡ get_or s 2 0 + 256 * get_or s 3 0
  unfolding number padded
  mark-is mark f = f ∙ rw (padded-is 2 2 s (omega arith)) (omega arith)

  pub waits-later : 2 ≤ get_or s 1 0 → (mark : ℕ) → mark ≡ number (take 2 (drop 2 s)) → Marked mark (get_or s 1 0)
      → eqb (y / 2 ^ (8 * get_or s 1 0 - 16)) 0 ≡ true → Waiting
  waits-later h mark f m t = go (get_or s 1 0) h m (shifted-below y (8 * get_or s 1 0 - 16) (eqb-true _ _ t))
    where
      go : (at : ℕ) → 2 ≤ at → Marked mark at → y < 2 ^ (8 * at - 16) → Waits at (take 10 (drop 2 s)) b
      go zero h m n = absurd (omega arith)
      go (suc zero) h m n = absurd (omega arith)
      go (suc (suc k)) h m n =
          let p : 8 * suc (suc k) - 16 ≡ 8 * k = omega arith in
          rw (room-is s l) (waits-more _ _ _ b k (rw (e, p) at n) (rw (mark-is mark f) at m))

one-part : (k : Kept) (room : List ℕ) (b : ℕ) → k.stands ≡ 0
    → part_taken held_packing (meant k room) (b ∷ []) false ≡ record { taken = 1; left = byte_taken held_packing (meant k room) b }
unfolding part_taken bytes_taken goes_on is_going one_more meant standing_of
one-part k room b z = rw z refl

one_byte : (k : Kept) (room : List ℕ) (b : ℕ) → k.stands ≡ 0
    → called held_packing (meant k room) (b ∷ []) false ≡ record { taken = 1; left = byte_taken held_packing (meant k room) b }
unfolding called meant
one_byte k room b z = rw (stands-going, eq-eqb k.stands 0 z) (one-part k room b z)

-- a byte that only lengthens the record at hand
module _ (s : List ℕ) (b : ℕ) (long : length s ≡ 1504) (byte : (i : ℕ) → get_or s i 0 < 256)
    (fit : any_of (unfit_tests s) ≡ false) (w : Waits (get_or s 1 0) (take 10 (drop 2 s)) b) where
  abbrev index : ℕ
  index = pair_at s 12 + 65536 * pair_at s 14

  record Fit : Type 0 where
    stands : get_or s 0 0 ≡ 0
    few : index < most_records
    space : get_or s 17 0 ≤ 7
    count : get_or s 20 0 ≤ 127
    reply : pair_at s 24 ≤ 1472
    size : pair_at s 22 ≤ 1472
    word : pair_at s 26 ≤ pair_at s 22
    some : pair_at s 22 ≡ 0 → ⊥
    write : get_or s 16 0 ≤ 1
    unlocked : get_or s 21 0 ≤ 1

  is-fit : Fit
  unfolding unfit_tests
  is-fit =
      let (stands, (few, (space, (count, (reply, (size, (word, (some, (write, (unlocked, _)))))))))) = none_of (unfit_tests s) fit in
      record {
        stands = eqb-true _ _ (not-false _ stands);
        few = leb-false _ _ few;
        space = ltb-false _ _ space;
        count = ltb-false _ _ count;
        reply = ltb-false _ _ reply;
        size = ltb-false _ _ size;
        word = ltb-false _ _ word;
        some = eqb-false _ _ some;
        write = ltb-false _ _ write;
        unlocked = ltb-false _ _ unlocked;
      }

  none-bad : any_of (bad_numbers (get_or s 0 0) (get_or s 1 0) index (packer_at s)) ≡ false
  unfolding bad_numbers packer_at
  none-bad =
      let f = is-fit in
      rw (
        f.stands,
        ne_eqb (pair_at s 22) 0 f.some,
        le-ltb 9 (get_or s 1 0) (omega (arith, w.few)),
        le-ltb most_records index (omega (arith, f.few)),
        le-ltb 7 (get_or s 17 0) f.space,
        le-ltb 127 (get_or s 20 0) f.count,
        le-ltb 1472 (pair_at s 24) f.reply,
        le-ltb 1476 (4 + pair_at s 22) (omega (arith, f.size)),
        le-ltb (pair_at s 22) (pair_at s 26) f.word,
      )
      refl

  abbrev c : List ℕ
  c = take (get_or s 1 0) (take 10 (drop 2 s))

  collected : length c ≡ get_or s 1 0
  collected = let f = is-fit in collected-length s long byte f.some f.write f.unlocked (omega (arith, w.few)) w.behind

  byte-waits : byte_taken held_packing (state_of s) b ≡ record { out = []; state = longer (state_of s) b }
  unfolding state_of
  byte-waits =
      let n : length (c ++ (b ∷ [])) ≡ get_or s 1 0 + 1 = rw (length-append, collected) refl in
      let h : length (c ++ (b ∷ [])) < decided_at index (c ++ (b ∷ [])) =
      rw n (w.waits index (λ e. omega (arith, is-fit.few))) in
      byte_at held_packing (state_of s) b (length (c ++ (b ∷ []))) (c ++ (b ∷ [])) refl refl ∙ rw (lt-ltb _ _ h) refl

  longer-bytes : bytes_of_state (longer (state_of s) b) ≡ set (set s (2 + get_or s 1 0) b) 1 (get_or s 1 0 + 1)
  unfolding state_of
  longer-bytes =
      let f = is-fit in
      let again = state-again s long byte f.some f.write f.unlocked (omega (arith, w.few)) w.behind in
      bytes-longer (state_of s) b (rw collected (omega (arith, w.few))) ∙ rw (again, collected) refl

  after-byte : called held_packing (state_of s) (b ∷ []) false
      ≡ record { taken = 1; left = record { out = []; state = longer (state_of s) b } }
  unfolding state_of meant kept_at
  after-byte = one_byte (kept_at s) (drop 28 s) b is-fit.stands ∙ rw byte-waits refl

  pub lengthened_is : (out : List ℕ) → 1476 ≤ length out
      → part_of s (b ∷ []) false out
      ≡ record { answer = accepted (0 ∷ []); taken = 1; state = set (set s (2 + get_or s 1 0) b) 1 (get_or s 1 0 + 1); room = out }
  unfolding kept_at meant state_of leaves answered answer_by standing_of
  lengthened_is out wide =
      call-is s (b ∷ []) false out wide long (kept_at s) refl false (sym none-bad) refl
      ∙ rw (after-byte, longer-bytes, is-fit.stands) refl

-- in the call
pub one-test : (n m : ℕ) (last : Bool) → (not (eqb n 1) || (last || not (eqb m 1504))) ≡ false
    → (n ≡ 1) × (last ≡ false) × (m ≡ 1504)
one-test n m last e =
    let a = or_false (not (eqb n 1)) _ e in
    let b = or_false last _ a.1 in
    (eqb-true _ _ (not-false _ a.0), b.0, eqb-true _ _ (not-false _ b.1))

pub one_left : (n : ℕ) (last : Bool) → (not (eqb n 1) || last) ≡ false → n ≡ 1
one_left n last e = eqb-true _ _ (not-false _ (or_false (not (eqb n 1)) last e).0)

one-is : (part : List ℕ) → length part ≡ 1 → part ≡ get_or part 0 0 ∷ []
one-is [] e = absurd (omega arith)
one-is (b ∷ []) e = refl
one-is (a ∷ b ∷ part) e = absurd (omega arith)

pub single_taken : (s part : List ℕ) (last : Bool) (out : List ℕ) (r : Bool) (s₂ : List ℕ) → Single r s (get_or part 0 0 ∷ []) false s₂
    → frame_room ≤ length out → r ≡ true → (length part ≡ 1) × (last ≡ false) × (length s ≡ 1504)
    → part_left (Ok 0) 1 s₂ out ≡ part_of s part last out
unfolding part_left verdict_listed
single_taken s part last out r s₂ h wide t (n, l, _) = rw (l, one-is part n) (sym (h.taken t out wide))

module _ {r : Bool} {s p : List ℕ} {l : Bool} {s₂ : List ℕ} (h : Single r s p l s₂) where
  pub outcome-taken : (out : List ℕ) → frame_room ≤ length out → r ≡ true
      → part_left (Ok 0) 1 s₂ out ≡ part_of s p l out
  unfolding part_left verdict_listed
  outcome-taken out wide t = sym (h.taken t out wide)

  module _ (f : r ≡ false) where
    pub kept-still : (k : Kept) → k ≡ kept_at s → k ≡ kept_at s₂
    kept-still k e = rw (h.still f) e

    pub long-still : length s ≡ 1504 → length s₂ ≡ 1504
    long-still e = rw (h.still f) e

    pub single_still : (part : List ℕ) (last : Bool) (out : List ℕ) (c : Part) (s₃ out₂ : List ℕ)
        → part_left c.answer c.taken s₃ out₂ ≡ part_of s₂ part last out → part_left c.answer c.taken s₃ out₂ ≡ part_of s part last out
    single_still part last out c s₃ out₂ d = rw (h.still f) at d

-- a good record is whole
shown_decides : (index : ℕ) (rest : List ℕ) → first (record_refusals index rest) ≡ 0 → decided_at index rest ≤ length rest
unfolding decided_at record_refusals unknown_mark record_step
shown_decides index rest e =
    let w = passing index rest e in
    let n = none-holds (record_refusals index rest) (omega arith) e in
    let known : unknown_mark rest ≡ false = (or_false (unknown_mark rest) _ n.1.0).0 in
    let long : record_bytes (record_kind rest) ≤ length rest = w.bytes in
    let six = record_bytes_le (record_kind rest) in
    rw (ne_eqb index most_records w.few, le-ltb (length rest) 2 (omega arith), known) long

-- a byte that completes a record which joins the open packet
module _ (s part : List ℕ) (last : Bool) (long : length s ≡ 1504) (k : Kept) (e : k ≡ kept_at s)
    (good : any_of (bad_numbers k.stands k.collected k.index k.packer) ≡ false) where
  abbrev rest : List ℕ
  rest = take (k.collected + 1) (set k.bytes k.collected (get_or part 0 0))

  abbrev room : List ℕ
  room = take (length s - 28) (drop 28 s)

  abbrev wide : 1476 ≤ length s
  wide = omega arith

  pub completed_kept : Ranged k
  completed_kept = kept-ranged s part last s wide long k e false (sym good) refl

  module _ (z : k.stands ≡ 0) (t : (not (eqb (length part) 1) || last) ≡ false) (n : ℕ)
      (f : n ≡ first (record_refusals k.index rest)) (g : n ≡ 0) (r : Record) (a : r ≡ record_at rest) (q : Packer)
      (d : q ≡ turned_within k.packer r) (one : q.packets ≡ 2 → ⊥) (room₂ : List ℕ) (p : room₂ ≡ put_within q rest room) where
    passes : first (record_refusals k.index rest) ≡ 0
    passes = sym f ∙ g

    abbrev after : Kept
    after = record { stands = 0; collected = 0; bytes = k.bytes; index = k.index + 1; packer = q }

    abbrev lent : List ℕ
    lent = take 28 s ++ (room₂ ++ drop (length s - 28) (drop 28 s))

    record_in : (out : List ℕ) → 1476 ≤ length out → Leaves (byte_taken held_packing (meant k room) (get_or part 0 0)) after 0 room₂ out out
    record_in out h =
        let rg = completed_kept in
        let rm = part-rooms s part last out h long k e false (sym good) refl in
        let turns = turns_open k.packer rest room rg.sound (record { index = k.index; passes = passes }) r a q d out one in
        let shown : k.collected + 1 ≡ length rest = shown-length k (get_or part 0 0) rg in
        let h : decided_at k.index rest ≤ length rest = shown_decides k.index rest passes in
        byte_record k (get_or part 0 0) rg room out rm (decided_at k.index rest) refl (omega arith) n f g after 0 room₂ out
        (record_leaves k rest room out rg rm passes q 0 out room₂ turns p)

    stops : (out : List ℕ) → 1476 ≤ length out
        → Stops (part_taken held_packing (meant k room) part last) (record { taken = 1; kept = after; written = 0 }) room₂ out out
    stops out h =
        let o = or_false (not (eqb (length part) 1)) last t in
        let i = one-is part (one_left (length part) last t) in
        rw (o.1, i, one-part k room (get_or part 0 0) z) (record { taken = refl; left = record_in out h })

    pub completed_fits : length lent ≡ 1504
    completed_fits = save_fits s part last s wide long k e false (sym good) refl z _ room₂ s (stops s wide)

    pub completed_ranged : Ranged after
    completed_ranged = (record_in s wide).ranged

    pub completed_is : (s₂ : List ℕ) → s₂ ≡ bytes_of_state (meant after (drop 28 lent)) → Single true s part last s₂
    unfolding part_left verdict_listed answer_by standing_of
    completed_is s₂ v =
        record {
          taken =
              λ _ out h. sym
              (part_left_lem s part last out h long k e false (sym good) refl z _ room₂ out (stops out h) s₂ v
              (record { answer = Ok 0; taken = 1 }) (refl, refl));
          still = λ x. no_true (sym x);
        }
