-- Whole records at a part's front: what their bytes do, taken one by one.
use Prim.Native.Nat.{ℕ, suc, ◌+◌, ◌-◌, ◌≤◌, ◌<◌}
use mathlib.Core.Path.{◌≡◌, refl, sym, ap, ◌∙◌, subst}
use mathlib.Core.List.{List, [], ◌∷◌, ◌++◌}
use mathlib.Core.Bool.{true, false, not, ◌||◌, ◌&&◌}
use native.Mathlib.Omega.{arith}
use lib.Dec.{eqb, ltb}
use lib.ListN.{length, take, drop, get_or, replicate, length-append, length-drop, take-append-drop}
use lib.Seq.{length-take-le, append_snoc}
use borrow.Author.Tests.{eqb-true, eqb-false, lt-ltb, le-ltb, ne_eqb, not-false}
use Rattle.lbp16.proofs.BoolLaws.{or_false}
use Rattle.packet.specs.Rules.{first}
use Rattle.packet.specs.Command.{pick_kind}
use Rattle.packet.proofs.RuleLaws.{none-holds}
use Rattle.packet.proofs.SliceLaws.{tail-whole}
use Rattle.cue.specs.Records.{record_kind, record_bytes, record_step, record_refusals, most_records}
use Rattle.cue.specs.Records.{record_at}
use Rattle.cue.specs.Untrusted.{turned_within, put_within}
use Rattle.cue.specs.declared.records.Record.{Record}
use Rattle.cue.specs.declared.packer.Packer.{Packer}
use Rattle.cue.proofs.ReadingLaws.{passing}
use Rattle.cue.proofs.RecordLaws.{whole-front}
use Rattle.cue.proofs.OwnBytesLaws.{same_kind_lem, same_step_lem}
use Rattle.cue.proofs.PackingLaws.{record_bytes_le}
use Rattle.parts.specs.Taking.{State, Taken, Stopped, going, unknown_mark, decided_at, record_taken, byte_taken, bytes_taken, is_going, goes_on, one_more}
use Rattle.parts.specs.State.{Held, held_packing, standing_of}
use Rattle.parts.specs.Inside.{Sound, Ranged, Rooms, Leaves, Going, Runs, more_by, meant, start_at, plain}
use Rattle.parts.specs.declared.state.Kept.{Kept}
use Rattle.parts.specs.declared.take.Run.{Run}
use Rattle.parts.proofs.FrontLaws.{mark-front, decided-two, decided-front, decided-number}
use Rattle.parts.proofs.ByteLaws.{byte_at}
use Rattle.parts.proofs.TakeLaws.{turns_open, record_leaves}
use Rattle.parts.proofs.PartLaws.{going-first, going-byte, going_more, going_next}

one_more_lem : (n : ℕ) (s : Stopped Held) → one_more (more_by n s) ≡ more_by (suc n) s
unfolding one_more more_by
one_more_lem n s = let e : suc (n + s.taken) ≡ suc n + s.taken = omega arith in λ i. record { taken = e i; left = s.left }

one-first : (s : Stopped Held) → one_more s ≡ more_by 1 s
unfolding one_more more_by
one-first s = let e : suc s.taken ≡ 1 + s.taken = omega arith in λ i. record { taken = e i; left = s.left }

module _ (index : ℕ) (packet : Held) where
  abbrev state : List ℕ → State Held
  state c = record { standing = going; index = index; collected = c; packet = packet }

  first_byte : (c : List ℕ) (b : ℕ) (bs : List ℕ)
      → bytes_taken held_packing (record { out = []; state = state c }) (b ∷ bs)
      ≡ one_more (bytes_taken held_packing (byte_taken held_packing (state c) b) bs)
  unfolding bytes_taken goes_on is_going
  first_byte c b bs = refl

  -- a record's bytes, `front`, one by one
  module _ (front : List ℕ) (few : index ≡ most_records → ⊥) (d : length front ≡ decided_at index front)
      (good : first (record_refusals index front) ≡ 0) where
    last_byte : (c : List ℕ) (b : ℕ) → c ++ (b ∷ []) ≡ front
        → byte_taken held_packing (state c) b ≡ record_taken held_packing 0 (state []) (record_step front)
    unfolding record_taken
    last_byte c b e =
        let h : decided_at index front ≤ length front = omega (arith, d) in
        let t : ltb (length front) (decided_at index front) ≡ false = le-ltb _ _ h in
        byte_at held_packing (state c) b (length front) front (sym e) refl ∙ rw (t, good) refl

    waits : (c : List ℕ) (b a : ℕ) (bs : List ℕ) → c ++ (b ∷ []) ++ (a ∷ bs) ≡ front
        → length (c ++ (b ∷ [])) < decided_at index (c ++ (b ∷ []))
    waits [] b a bs e = let h = decided-two index (b ∷ []) few in omega arith
    waits (x ∷ c) b a bs e =
        let two : 2 ≤ length (x ∷ c ++ (b ∷ [])) = rw length-append (omega arith) in
        let f : decided_at index (x ∷ c ++ (b ∷ []) ++ (a ∷ bs)) ≡ decided_at index (x ∷ c ++ (b ∷ [])) =
        decided-front index (x ∷ c ++ (b ∷ [])) (a ∷ bs) two in
        let n = subst (λ (l : List ℕ). length l ≡ decided_at index l) (sym e) d in
        let m : length (x ∷ c ++ (b ∷ [])) + length (a ∷ bs) ≡ decided_at index (x ∷ c ++ (b ∷ [])) =
        sym (length-append (x ∷ c ++ (b ∷ [])) (a ∷ bs)) ∙ n ∙ f in
        omega arith

    next-byte : (c : List ℕ) (b a : ℕ) (bs : List ℕ) → c ++ (b ∷ []) ++ (a ∷ bs) ≡ front
        → byte_taken held_packing (state c) b ≡ record { out = []; state = state (c ++ (b ∷ [])) }
    next-byte c b a bs e =
        byte_at held_packing (state c) b (length (c ++ (b ∷ []))) (c ++ (b ∷ [])) refl refl
        ∙ rw (lt-ltb _ _ (waits c b a bs e)) refl

    all-bytes : (c : List ℕ) (b : ℕ) (bs tail : List ℕ) → c ++ (b ∷ bs) ≡ front
        → bytes_taken held_packing (record { out = []; state = state c }) (b ∷ bs ++ tail)
        ≡ more_by (length (b ∷ bs)) (bytes_taken held_packing (record_taken held_packing 0 (state []) (record_step front)) tail)
    all-bytes c b [] tail e =
        first_byte c b tail
        ∙ ap (λ (t : Taken Held). one_more (bytes_taken held_packing t tail)) (last_byte c b e)
        ∙ one-first (bytes_taken held_packing (record_taken held_packing 0 (state []) (record_step front)) tail)
    all-bytes c b (a ∷ bs) tail e =
        let f : c ++ (b ∷ []) ++ (a ∷ bs) ≡ front = append_snoc c b (a ∷ bs) ∙ e in
        first_byte c b (a ∷ bs ++ tail)
        ∙ ap (λ (t : Taken Held). one_more (bytes_taken held_packing t (a ∷ bs ++ tail))) (next-byte c b a bs f)
        ∙ ap one_more (all-bytes (c ++ (b ∷ [])) a bs tail f)
        ∙ one_more_lem (length (a ∷ bs)) (bytes_taken held_packing (record_taken held_packing 0 (state []) (record_step front)) tail)

  -- a good record that stands whole at the front of a list
  module _ (front tail : List ℕ) (e : first (record_refusals index (front ++ tail)) ≡ 0)
      (l : length front ≡ record_bytes (record_kind (front ++ tail))) where
    six : 6 ≤ length front
    six = omega (arith, l, record_bytes_le (record_kind (front ++ tail)))

    kind : record_kind (front ++ tail) ≡ record_kind front
    kind = same_kind_lem front tail (omega (arith, six))

    known : unknown_mark front ≡ false
    unfolding record_refusals unknown_mark
    known =
        let n = none-holds (record_refusals index (front ++ tail)) (omega arith) e in
        rw (mark-front front tail (omega (arith, six))) at (or_false (unknown_mark (front ++ tail)) _ n.1.0).0

    decided : length front ≡ decided_at index front
    unfolding decided_at
    decided =
        rw (ne_eqb index most_records (passing index (front ++ tail) e).few, le-ltb (length front) 2 (omega (arith, six)), known)
        (rw kind at l)

    pub front-taken : bytes_taken held_packing (record { out = []; state = state [] }) (front ++ tail)
        ≡ more_by (length front) (bytes_taken held_packing (record_taken held_packing 0 (state []) (record_step (front ++ tail))) tail)
    front-taken =
        let good : first (record_refusals index front) ≡ 0 = sym (decided-number index front tail decided) ∙ e in
        let step : record_step (front ++ tail) ≡ record_step front = same_step_lem front tail (rw (← kind, l) (omega arith)) in
        rw step (go front refl good)
      where
        go : (f : List ℕ) → f ≡ front → first (record_refusals index front) ≡ 0
            → bytes_taken held_packing (record { out = []; state = state [] }) (f ++ tail)
            ≡ more_by (length f) (bytes_taken held_packing (record_taken held_packing 0 (state []) (record_step front)) tail)
        go [] q good = let z : 0 ≡ length front = rw (← q) refl in absurd (omega (arith, six))
        go (b ∷ bs) q good = all-bytes front (passing index (front ++ tail) e).few decided good [] b bs tail q

  pub whole-taken : (rest : List ℕ) → first (record_refusals index rest) ≡ 0
      → bytes_taken held_packing (record { out = []; state = state [] }) rest
      ≡ more_by (record_bytes (record_kind rest))
      (bytes_taken held_packing (record_taken held_packing 0 (state []) (record_step rest)) (drop (record_bytes (record_kind rest)) rest))
  whole-taken rest e =
      let n = record_bytes (record_kind rest) in
      let l : length (take n rest) ≡ n = length-take-le n rest (whole-front index rest e) in
      let j = take-append-drop n rest in
      rw (j, l) at (front-taken (take n rest) (drop n rest) (rw j e) (rw j l))

-- as the code takes them
module _ (p : Packer) (index : ℕ) (rest room : List ℕ) (s : Sound p) (few : index ≤ most_records) (held : length room ≡ 1476) where
  plain-ranged : (bytes : List ℕ) → length bytes ≡ 10 → Ranged (plain bytes p index)
  unfolding plain
  plain-ranged bytes l = record { stands = omega arith; known = λ h. omega arith; collected = omega arith; bytes = l; index = few; sound = s }

  pub runs_none : Runs p index rest room (record { taken = 0; packer = p; index = index }) room
  runs_none =
      record {
        held = held;
        within = omega arith;
        sound = s;
        few = few;
        going = λ bytes old l rm. going-first (plain bytes p index) rest room old (plain-ranged bytes l) rm;
      }

  module _ (number : ℕ) (f : number ≡ first (record_refusals index rest)) (g : number ≡ 0) where
    good : first (record_refusals index rest) ≡ 0
    good = sym f ∙ g

    abbrev h : Held
    h = record { packer = p; room = room }

    record_going : (bytes : List ℕ) (k₂ : Kept) (room₂ old : List ℕ)
        → Leaves (record_taken held_packing 0 (meant (plain bytes p index) room) (record_step rest)) k₂ 0 room₂ old old
        → Going (start_at (plain bytes p index) room) rest old k₂ 0 (record_bytes (record_kind rest)) room₂ old
    unfolding start_at meant standing_of plain
    record_going bytes k₂ room₂ old l =
        record {
          t = record_taken held_packing 0 (meant (plain bytes p index) room) (record_step rest);
          leaves = l;
          within = whole-front index rest good;
          same = whole-taken index h rest good;
        }

    module _ (r : Record) (a : r ≡ record_at rest) (q : Packer) (d : q ≡ turned_within p r) (one : q.packets ≡ 2 → ⊥)
        (room₂ : List ℕ) (e : room₂ ≡ put_within q rest room) (n : ℕ) (b : n ≡ record_bytes (pick_kind r.write)) where
      size : n ≡ record_bytes (record_kind rest)
      unfolding record_kind record_at
      size = rw a at b

      leaves : (bytes old : List ℕ) → length bytes ≡ 10 → Rooms room old
          → Leaves (record_taken held_packing 0 (meant (plain bytes p index) room) (record_step rest)) (plain bytes q (index + 1)) 0
          room₂ old old
      unfolding plain
      leaves bytes old l rm =
          record_leaves (plain bytes p index) rest room old (plain-ranged bytes l) rm good q 0 old room₂
          (turns_open p rest room s (record { index = index; passes = good }) r a q d old one) e

      own : Leaves (record_taken held_packing 0 (meant (plain (replicate 10 0) p index) room) (record_step rest))
          (plain (replicate 10 0) q (index + 1)) 0 room₂ room room
      own = leaves (replicate 10 0) room refl (record { held = held; lent = omega arith })

      pub runs_record : Runs p index rest room (record { taken = n; packer = q; index = index + 1 }) room₂
      unfolding plain
      runs_record =
          record {
            held = own.rooms.held;
            within = rw size (whole-front index rest good);
            sound = own.ranged.sound;
            few = own.ranged.index;
            going = λ bytes old l rm. rw size (record_going bytes (plain bytes q (index + 1)) room₂ old (leaves bytes old l rm));
          }

-- a record behind those taken, as the code lends it the rest of the part
pub runs_more : (p : Packer) (first : ℕ) (part room : List ℕ) (r : Run) (room₁ : List ℕ) → Runs p first part room r room₁
    → (s : Run) (room₂ : List ℕ)
    → Runs r.packer r.index (take (length part - r.taken) (drop r.taken part)) room₁ s room₂
    → Runs p first part room (record { taken = r.taken + s.taken; packer = s.packer; index = s.index }) room₂
runs_more p first part room r room₁ h s room₂ j₀ =
    let j : Runs r.packer r.index (drop r.taken part) room₁ s room₂ = rw (tail-whole r.taken part) at j₀ in
    let w : s.taken ≤ length part - r.taken = rw length-drop at j.within in
    record {
      held = j.held;
      within = omega (arith, h.within);
      sound = j.sound;
      few = j.few;
      going =
          λ bytes old l rm. going_more _ part old _ r.taken room₁ (h.going bytes old l rm) _ _ _ _ _
          (j.going bytes old l (record { held = h.held; lent = rm.lent }));
    }

-- a byte, and whole records behind it
module _ (k : Kept) (rest room old : List ℕ) (rg : Ranged k) (rm : Rooms room old) (z : k.stands ≡ 0) (some : 1 ≤ length rest)
    (k₂ : Kept) (n₂ : ℕ) (room₂ out₂ : List ℕ)
    (l : Leaves (byte_taken held_packing (meant k room) (get_or rest 0 0)) k₂ n₂ room₂ out₂ old) where
  pub byte-going : Going (start_at k room) rest old k₂ n₂ 1 room₂ out₂
  byte-going = going-byte _ rest old k 0 room (going-first k rest room old rg rm) (omega arith) z k₂ n₂ room₂ out₂ l

  -- by the test that the code makes
  module _ (e : (eqb (length rest) 1 || (not (eqb k₂.stands 0) || (not (eqb n₂ 0) || not (eqb k₂.collected 0)))) ≡ false) where
    more : (length rest ≡ 1 → ⊥) × (k₂.stands ≡ 0) × (n₂ ≡ 0) × (k₂.collected ≡ 0)
    more =
        let a = or_false (eqb (length rest) 1) _ e in
        let b = or_false (not (eqb k₂.stands 0)) _ a.1 in
        let c = or_false (not (eqb n₂ 0)) _ b.1 in
        (eqb-false _ _ a.0, eqb-true _ _ (not-false _ b.0), eqb-true _ _ (not-false _ c.0), eqb-true _ _ (not-false _ c.1))

    pub stretch_more : (r : Run) (room₃ : List ℕ)
        → Runs k₂.packer k₂.index (take (length rest - 1) (drop 1 rest)) room₂ r room₃
        → Going (start_at k room) rest old (plain k₂.bytes r.packer r.index) 0 (1 + r.taken) room₃ out₂
    unfolding plain
    stretch_more r room₃ j =
        let others = take (length rest - 1) (drop 1 rest) in
        let (long, stands, none, waiting) = more in
        let h : 1 < length rest = omega (arith, some, long) in
        let t : (ltb 1 (length rest) && (eqb k₂.stands 0 && eqb n₂ 0)) ≡ true = rw (lt-ltb 1 (length rest) h, stands, none) refl in
        let same : k₂ ≡ plain k₂.bytes k₂.packer k₂.index =
        λ i. record { stands = stands i; collected = waiting i; bytes = k₂.bytes; index = k₂.index; packer = k₂.packer } in
        going_next (start_at k room) rest old k₂ n₂ 1 room₂ out₂ byte-going _ _ _ _ _ t
        (subst
        (λ (q : Kept). Going (start_at q room₂) others out₂ (plain k₂.bytes r.packer r.index) 0 r.taken room₃ out₂)
        (sym same) (j.going k₂.bytes out₂ l.ranged.bytes l.rooms))
