-- A part's bytes and the list's end, as the code takes them.
use Prim.Native.Nat.{ℕ, zero, suc, ◌+◌, ◌-◌, ◌≤◌, ◌<◌}
use mathlib.Core.Path.{◌≡◌, refl, sym, ◌∙◌}
use mathlib.Core.List.{List, [], ◌∷◌, ◌++◌}
use mathlib.Core.Bool.{Bool, true, false, ◌&&◌}
use native.Mathlib.Omega.{arith}
use native.Mathlib.Numerals.{add-one}
use lib.Dec.{eqb, ltb}
use lib.ListN.{length, take, drop, get_or, length-append, length-take, length-drop, drop_of_length-le}
use lib.Seq.{drop-cons, drop-drop}
use borrow.Author.Tests.{eqb-true, ltb-true, ltb-false, ne_eqb}
use Rattle.lbp16.proofs.BoolLaws.{and_true}
use Rattle.lbp16.proofs.ListLaws.{none_left}
use Rattle.packet.proofs.SliceLaws.{tail-whole}
use Rattle.parts.specs.Taking.{Taken, Stopped, is_going, goes_on, one_more, byte_taken, bytes_taken}
use Rattle.parts.specs.Taking.{faulted_by, end_taken, part_taken}
use Rattle.parts.specs.State.{Held, held_packing, standing_of}
use Rattle.parts.specs.Inside.{Ranged, Rooms, Leaves, Stops, Going, more_by, meant, start_at}
use Rattle.parts.specs.declared.state.Kept.{Kept}
use Rattle.parts.specs.declared.take.Stop.{Stop}
use Rattle.parts.proofs.Reached.{goes_on_lem}
use Rattle.parts.proofs.TakeLaws.{front_length, front_fits}

pub going-first : (k : Kept) (part room old : List ℕ) → Ranged k → Rooms room old
    → Going (start_at k room) part old k 0 0 room old
unfolding start_at more_by
going-first k part room old rg rm =
    let b = bytes_taken held_packing (start_at k room) part in
    record {
      t = start_at k room;
      leaves = record { state = refl; written = refl; handed = refl; lent = refl; ranged = rg; rooms = rm };
      within = omega arith;
      same = λ i. record { taken = zero_is b.taken i; left = b.left };
    }
  where
    zero_is : (n : ℕ) → n ≡ 0 + n
    zero_is n = omega arith

pub stands-going : (n : ℕ) → is_going (standing_of n) ≡ eqb n 0
unfolding is_going standing_of
stands-going zero = refl
stands-going (suc zero) = refl
stands-going (suc (suc n)) = sym (ne_eqb (suc (suc n)) 0 (λ e. omega arith))

-- whether bytes are taken on, by the numbers kept
pub goes_kept : (t : Taken Held) (k : Kept) (n : ℕ) (room out old : List ℕ) → Leaves t k n room out old
    → goes_on t ≡ (eqb k.stands 0 && eqb n 0)
unfolding goes_on meant
goes_kept t k n room out old l = rw (← l.state, ← l.written, stands-going) refl

more-one : (n : ℕ) (s : Stopped Held) → more_by n (one_more s) ≡ more_by (n + 1) s
unfolding more_by one_more
more-one n s = let e : n + suc s.taken ≡ n + 1 + s.taken = omega arith in λ i. record { taken = e i; left = s.left }

bytes_next : (t : Taken Held) (part : List ℕ) (at : ℕ) → at < length part → goes_on t ≡ true
    → bytes_taken held_packing t (drop at part)
    ≡ one_more (bytes_taken held_packing (byte_taken held_packing t.state (get_or part at 0)) (drop (at + 1) part))
unfolding bytes_taken
bytes_next t part at h g = rw (drop-cons part at 0 h, g, add-one) refl

bytes-stop : (t : Taken Held) (part : List ℕ) (at : ℕ) → at ≤ length part → (ltb at (length part) && goes_on t) ≡ false
    → bytes_taken held_packing t (drop at part) ≡ record { taken = 0; left = t }
unfolding bytes_taken
bytes-stop t part at h e = go (ltb at (length part)) refl e
  where
    go : (b : Bool) → ltb at (length part) ≡ b → (b && goes_on t) ≡ false
        → bytes_taken held_packing t (drop at part) ≡ record { taken = 0; left = t }
    go true b g = rw (drop-cons part at 0 (ltb-true _ _ b), g) refl
    go false b g = rw (drop_of_length-le part {i = at} (ltb-false _ _ b)) refl

more-more : (n m : ℕ) (s : Stopped Held) → more_by n (more_by m s) ≡ more_by (n + m) s
unfolding more_by
more-more n m s = let e : n + (m + s.taken) ≡ n + m + s.taken = omega arith in λ i. record { taken = e i; left = s.left }

pub rest-within : (part : List ℕ) (at m : ℕ) → at ≤ length part → m ≤ length (take (length part - at) (drop at part))
    → at + m ≤ length part
rest-within part at m h k = let w : m ≤ length part - at = rw (tail-whole, length-drop) at k in omega arith

-- where nothing is handed out yet: the bytes taken, and after them one more or several
module _ (start : Taken Held) (part old : List ℕ) (k : Kept) (at : ℕ) (room : List ℕ) (g : Going start part old k 0 at room old)
  where
    pub going-byte : at < length part → k.stands ≡ 0 → (k₂ : Kept) (n₂ : ℕ) (room₂ out₂ : List ℕ)
        → Leaves (byte_taken held_packing (meant k room) (get_or part at 0)) k₂ n₂ room₂ out₂ old
        → Going start part old k₂ n₂ (at + 1) room₂ out₂
    going-byte h z k₂ n₂ room₂ out₂ l =
        let goes : goes_on g.t ≡ true = goes_kept _ _ _ _ _ _ g.leaves ∙ rw z refl in
        record {
          t = byte_taken held_packing (meant k room) (get_or part at 0);
          leaves = l;
          within = omega arith;
          same = g.same ∙ rw (bytes_next g.t part at h goes, more-one, ← g.leaves.state) refl;
        }

    start-again : g.t ≡ start_at k room
    unfolding start_at
    start-again =
        let e = none_left g.t.out (sym g.leaves.written) in
        let s = g.leaves.state in
        λ i. record { out = e i; state = sym s i }

    pub going_more : (k₂ : Kept) (n₂ m : ℕ) (room₂ out₂ : List ℕ) → Going (start_at k room) (drop at part) old k₂ n₂ m room₂ out₂
        → Going start part old k₂ n₂ (at + m) room₂ out₂
    going_more k₂ n₂ m room₂ out₂ q =
        let w : m ≤ length part - at = rw length-drop at q.within in
        record {
          t = q.t;
          leaves = q.leaves;
          within = omega (arith, g.within);
          same = g.same ∙ rw (start-again, q.same, more-more, drop-drop) refl;
        }

module _ (start : Taken Held) (part old : List ℕ) (k : Kept) (n at : ℕ) (room out : List ℕ)
    (g : Going start part old k n at room out) where
  pub going_next : (k₂ : Kept) (n₂ m : ℕ) (room₂ out₂ : List ℕ)
      → (ltb at (length part) && (eqb k.stands 0 && eqb n 0)) ≡ true
      → Going (start_at k room) (take (length part - at) (drop at part)) out k₂ n₂ m room₂ out₂
      → Going start part old k₂ n₂ (at + m) room₂ out₂
  going_next k₂ n₂ m room₂ out₂ e q =
      let a = and_true (ltb at (length part)) (eqb k.stands 0 && eqb n 0) e in
      let goes : goes_on g.t ≡ true = goes_kept _ _ _ _ _ _ g.leaves ∙ a.1 in
      let same : out ≡ old = rw (goes_on_lem g.t goes).1 at g.leaves.handed in
      let z : n ≡ 0 = eqb-true _ _ (and_true (eqb k.stands 0) (eqb n 0) a.1).1 in
      let g₀ : Going start part old k 0 at room old = rw (z, same) at g in
      let all : take (length part - at) (drop at part) ≡ drop at part = tail-whole at part in
      going_more start part old k at room g₀ k₂ n₂ m room₂ out₂ (rw (same, all) at q)

  pub going-last : (ltb at (length part) && (eqb k.stands 0 && eqb n 0)) ≡ false
      → Stops (bytes_taken held_packing start part) (record { taken = at; kept = k; written = n }) room out old
  unfolding more_by
  going-last e =
      let z = bytes-stop g.t part at g.within (rw (goes_kept _ _ _ _ _ _ g.leaves) e) in
      rw (g.same, z) (record { taken = omega arith; left = g.leaves })

-- the loop's test, taken apart
module _ (at m s n : ℕ) (e : (ltb at m && (eqb s 0 && eqb n 0)) ≡ true) where
  pub test-within : at < m
  test-within = ltb-true _ _ (and_true (ltb at m) (eqb s 0 && eqb n 0) e).0

  pub test-going : s ≡ 0
  test-going = eqb-true _ _ (and_true (eqb s 0) (eqb n 0) (and_true (ltb at m) (eqb s 0 && eqb n 0) e).1).0

  pub some_left : (part : List ℕ) → length part ≡ m → 1 ≤ length (take (length part - at) (drop at part))
  some_left part e = let h = test-within in rw (tail-whole, length-drop, e) (omega arith)

  pub fewer-left : (i : ℕ) → 1 ≤ i → m - (at + i) < m - at
  fewer-left i o = let h = test-within in omega arith

-- the list's end
module _ (k : Kept) (room old : List ℕ) (rg : Ranged k) (rm : Rooms room old) where
  pub end-cut : (k.collected ≡ 0 → ⊥) → (r : Kept)
      → r ≡ record { stands = 22; collected = 0; bytes = k.bytes; index = k.index; packer = k.packer }
      → Leaves (end_taken held_packing (meant k room) (take k.collected k.bytes)) r 0 room old old
  unfolding end_taken faulted_by meant standing_of
  end-cut z r e =
      let n : length (take k.collected k.bytes) ≡ k.collected =
      rw (length-take, rg.bytes) (omega (arith, rg.collected)) in
      rw e (go (take k.collected k.bytes) (λ m. z (sym n ∙ m)))
    where
      go : (c : List ℕ) → (length c ≡ 0 → ⊥)
          → Leaves (end_taken held_packing (meant k room) c)
          (record { stands = 22; collected = 0; bytes = k.bytes; index = k.index; packer = k.packer }) 0 room old old
      go [] h = absurd (h refl)
      go (b ∷ bs) h =
          record {
            state = refl;
            written = refl;
            handed = refl;
            lent = refl;
            ranged =
                record {
                  stands = omega arith;
                  known = λ h. omega arith;
                  collected = omega arith;
                  bytes = rg.bytes;
                  index = rg.index;
                  sound = rg.sound;
                };
            rooms = rm;
          }

  pub end_whole : k.collected ≡ 0 → (r : Kept) (out : List ℕ)
      → r ≡ record { stands = 1; collected = 0; bytes = k.bytes; index = k.index; packer = k.packer }
      → out ≡ take k.packer.end room ++ drop (length (take k.packer.end room)) old
      → Leaves (end_taken held_packing (meant k room) (take k.collected k.bytes)) r k.packer.end room out old
  unfolding end_taken meant standing_of held_packing
  end_whole z r out e h =
      let size = front_length k.packer room rg.sound rm.held in
      let fits = front_fits k.packer room old rg.sound rm in
      let wide : length out ≡ length old = rw (h, length-append, length-drop) (omega arith) in
      rw (e, z)
      (record {
        state = refl;
        written = size;
        handed = h;
        lent = wide;
        ranged =
            record {
              stands = omega arith;
              known = λ h. omega arith;
              collected = omega arith;
              bytes = rg.bytes;
              index = rg.index;
              sound = rg.sound;
            };
        rooms = record { held = rm.held; lent = rw wide rm.lent };
      })

-- a part, and the list's end behind it
module _ (k : Kept) (part room₀ old : List ℕ) (last : Bool) (s : Stop) (room out : List ℕ)
    (h : Stops (bytes_taken held_packing (start_at k room₀) part) s room out old) where
  abbrev b : Stopped Held
  b = bytes_taken held_packing (start_at k room₀) part

  goes_last : (last && goes_on b.left) ≡ (last && (eqb s.kept.stands 0 && eqb s.written 0))
  goes_last = rw (goes_kept b.left s.kept s.written room out old h.left) refl

  pub part-stops : (last && (eqb s.kept.stands 0 && eqb s.written 0)) ≡ false
      → Stops (part_taken held_packing (meant k room₀) part last) s room out old
  unfolding part_taken start_at
  part-stops e = rw (goes_last ∙ e) h

  pub part-ends : (last && (eqb s.kept.stands 0 && eqb s.written 0)) ≡ true → (r : Kept) (n : ℕ) (out₂ : List ℕ)
      → Leaves (end_taken held_packing (meant s.kept room) (take s.kept.collected s.kept.bytes)) r n room out₂ out
      → Stops (part_taken held_packing (meant k room₀) part last) (record { taken = s.taken; kept = r; written = n }) room out₂ old
  unfolding part_taken start_at meant
  part-ends e r n out₂ l =
      let g : goes_on b.left ≡ true = (and_true last (goes_on b.left) (goes_last ∙ e)).1 in
      let same : out ≡ old = rw (goes_on_lem b.left g).1 at h.left.handed in
      rw (goes_last ∙ e, ← h.left.state) (record { taken = h.taken; left = rw same at l })
