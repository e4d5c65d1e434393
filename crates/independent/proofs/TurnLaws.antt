-- Packets that hold two lists' records, run one after the other.
use Prim.Native.Nat.{ℕ, suc, ◌+◌, ◌-◌, ◌≤◌, ◌<◌}
use mathlib.Core.Path.{◌≡◌, refl, sym, ap, ◌∙◌}
use mathlib.Core.Logic.{◌⊎◌, inl, inr, ◌≢◌}
use mathlib.Core.List.{List, [], ◌∷◌, ◌++◌, append-nil}
use mathlib.Core.Bool.{true, false, ◌&&◌}
use native.Mathlib.Omega.{arith}
use native.Mathlib.Decide.{dec_le}
use lib.ListN.{length, drop, get_or, set, length-append, length-set, get_or-eq_default}
use lib.Seq.{sets, length-sets, get_or-take, get_or-drop, get_or-set_same, get_or-set_other, ext_get_or}
use Rattle.lbp16.specs.declared.pointer.Pointers.{Pointers}
use Rattle.packet.specs.Bytes.{number, bytes_of}
use Rattle.packet.specs.Step.{Step, store_after, values_read}
use Rattle.packet.specs.Command.{limit}
use Rattle.packet.proofs.StoreLaws.{length-after}
use Rattle.card.specs.Run.{bad_state, unlock_cell, count_cell, cleared, bytes_of_count, counted, outcome}
use Rattle.card.proofs.RunLaws.{length-cleared, length-counted, good-state, state-again, run_accepted, count-on}
use Rattle.cue.specs.Play.{Played, play}
use Rattle.cue.specs.Demand3.{Off, unlock_after, count_after}
use Rattle.cue.proofs.Relations.{Good, Holds}
use Rattle.cue.proofs.RunAll.{blank, blank-outside, alike, run_all, unlock_zero}
use Rattle.independent.specs.EitherOrder.{InTurn, in_turn}

-- packets that ran left a state that refusal 1 does not turn away
record Sound (r : Played) : Type 0 where
  state : bad_state r.store r.pointers ≡ false

state-kept : (packets : List (List ℕ)) (xs : List Step) → Holds packets xs → (store : List ℕ) (p : Pointers)
    (rooms : ℕ → List ℕ) → bad_state store p ≡ false → ((i : ℕ) → length (rooms i) ≡ limit)
    → Sound (play packets rooms store p)
unfolding play outcome
state-kept _ _ Holds.none store p rooms fine ok = record { state = fine }
state-kept _ _ (Holds.more {packet = packet} {packets = packets} {ss = ss} {ys = ys} d m h) store p rooms fine ok =
    let state = good-state store p fine in
    let j = d.judged p state.1 in
    let next = counted (cleared (store_after ss store)) in
    let n : length next ≡ length store =
    length-counted (cleared (store_after ss store)) ∙ length-cleared (store_after ss store) ∙ length-after ss store in
    let again = state-again store next p j.0.pointers n j.3 fine in
    rw (run_accepted packet store p (rooms 0) j.0 fine (ok 0) d.short j.1, j.2)
    (record { state = (state-kept packets ys h next j.0.pointers (λ i. rooms (suc i)) again (λ i. ok (suc i))).state })

-- a place is inside a range or off it
side : (j n i : ℕ) → ((j ≤ i) × (i < j + n)) ⊎ ((i < j) ⊎ (j + n ≤ i))
side j n i = go (dec_le j i) (dec_le (j + n) i)
  where
    go : Dec (j ≤ i) → Dec (j + n ≤ i) → ((j ≤ i) × (i < j + n)) ⊎ ((i < j) ⊎ (j + n ≤ i))
    go (yes h) (yes k) = inr (inr k)
    go (yes h) (no k) = inl (h, omega arith)
    go (no h) k = inr (inl (omega arith))

-- Where two lists agree off a range, they agree everywhere once the same is written there.
same_once_set : (ws a b : List ℕ) (j i : ℕ) → length a ≡ length b
    → ((i < j) ⊎ (j + length ws ≤ i) → get_or a i 0 ≡ get_or b i 0) → get_or (sets a j ws) i 0 ≡ get_or (sets b j ws) i 0
same_once_set [] a b j i l h = go (side j 0 i)
  where
    go : ((j ≤ i) × (i < j + 0)) ⊎ ((i < j) ⊎ (j + 0 ≤ i)) → get_or a i 0 ≡ get_or b i 0
    go (inl (p, q)) = absurd (omega arith)
    go (inr o) = h o
same_once_set (w ∷ ws) a b j i l h =
    same_once_set ws (set a j w) (set b j w) (suc j) i (rw (length-set, length-set) l) (λ o. go o (side j 1 i))
  where
    at_first : Dec (length a ≤ j) → get_or (set a j w) j 0 ≡ get_or (set b j w) j 0
    at_first (yes n) =
        get_or-eq_default (set a j w) 0 (rw length-set n)
        ∙ sym (get_or-eq_default (set b j w) 0 (rw length-set (omega arith)))
    at_first (no n) = get_or-set_same a j w 0 (omega arith) ∙ sym (get_or-set_same b j w 0 (omega arith))

    off : i ≢ j → (i < j) ⊎ (j + suc (length ws) ≤ i) → get_or (set a j w) i 0 ≡ get_or (set b j w) i 0
    off n o = get_or-set_other a j i w 0 n ∙ h o ∙ sym (get_or-set_other b j i w 0 n)

    go : (i < suc j) ⊎ (suc j + length ws ≤ i) → ((j ≤ i) × (i < j + 1)) ⊎ ((i < j) ⊎ (j + 1 ≤ i))
        → get_or (set a j w) i 0 ≡ get_or (set b j w) i 0
    go o (inl (p, q)) = let e : i ≡ j = omega arith in rw e (at_first (dec_le (length a) j))
    go o (inr (inl n)) = off (omega arith) (inl n)
    go (inl l) (inr (inr n)) = absurd (omega arith)
    go (inr l) (inr (inr n)) = off (omega arith) (inr (omega arith))

-- Stores that agree off the unlock cell and the count are equal once both cells are cleared,
same-blank : (a b : List ℕ) → length a ≡ length b
    → ((i : ℕ) → Off unlock_cell i → Off count_cell i → get_or a i 0 ≡ get_or b i 0) → blank a ≡ blank b
unfolding blank cleared
same-blank a b l h =
    let z : List ℕ = 0 ∷ 0 ∷ [] in
    let n : length (sets a count_cell z) ≡ length (sets b count_cell z) =
    length-sets a count_cell z ∙ l ∙ sym (length-sets b count_cell z) in
    ext_get_or 0 (blank a) (blank b) (length-sets (sets a count_cell z) unlock_cell z ∙ n ∙ sym (length-sets (sets b count_cell z) unlock_cell z))
    (λ i _. same_once_set z (sets a count_cell z) (sets b count_cell z) unlock_cell i n
    (λ o. same_once_set z a b count_cell i l (λ q. h i o q)))

-- and are equal if besides the two cells hold the same.
pub same_store : (a b : List ℕ) → length a ≡ length b → blank a ≡ blank b
    → ((i : ℕ) → unlock_cell ≤ i → i < unlock_cell + 2 → get_or a i 0 ≡ get_or b i 0) → bytes_of_count a ≡ bytes_of_count b → a ≡ b
unfolding bytes_of_count
same_store a b l e u c = ext_get_or 0 a b l (λ i _. go i (side unlock_cell 2 i) (side count_cell 2 i))
  where
    counts : (i : ℕ) → i < 2 → get_or a (count_cell + i) 0 ≡ get_or b (count_cell + i) 0
    counts i h =
        sym (get_or-take 2 (drop count_cell a) i 0 h ∙ get_or-drop count_cell a i 0)
        ∙ ap (λ s. get_or s i 0) c
        ∙ (get_or-take 2 (drop count_cell b) i 0 h ∙ get_or-drop count_cell b i 0)

    in_count : (i : ℕ) → count_cell ≤ i → i < count_cell + 2 → get_or a i 0 ≡ get_or b i 0
    in_count i h k =
        let q : i ≡ count_cell + (i - count_cell) = omega arith in
        rw q (counts (i - count_cell) (omega arith))

    off : (i : ℕ) → Off unlock_cell i → Off count_cell i → get_or a i 0 ≡ get_or b i 0
    off i h k = sym (blank-outside a i h k) ∙ ap (λ s. get_or s i 0) e ∙ blank-outside b i h k

    go : (i : ℕ) → ((unlock_cell ≤ i) × (i < unlock_cell + 2)) ⊎ Off unlock_cell i
        → ((count_cell ≤ i) × (i < count_cell + 2)) ⊎ Off count_cell i → get_or a i 0 ≡ get_or b i 0
    go i (inl (h, k)) c = u i h k
    go i (inr o) (inl (h, k)) = in_count i h k
    go i (inr o) (inr q) = off i o q

-- two lists' packets: what each leaves in the two cells, one after the other and in either order
module _ (ps qs : List (List ℕ)) where
  unlock-both : (old : ℕ) → unlock_after qs (unlock_after ps old) ≡ unlock_after (ps ++ qs) old
  unfolding unlock_after
  unlock-both old = go ps
    where
      go : (ps : List (List ℕ)) → unlock_after qs (unlock_after ps old) ≡ unlock_after (ps ++ qs) old
      go [] = refl
      go (p ∷ ps) = unlock_zero qs

  pub unlock-either : (old : ℕ) → unlock_after (ps ++ qs) old ≡ unlock_after (qs ++ ps) old
  unfolding unlock_after
  unlock-either old = go ps qs
    where
      go : (ps qs : List (List ℕ)) → unlock_after (ps ++ qs) old ≡ unlock_after (qs ++ ps) old
      go [] [] = refl
      go [] (q ∷ qs) = refl
      go (p ∷ ps) [] = refl
      go (p ∷ ps) (q ∷ qs) = refl

  count-both : (old : List ℕ) → count_after qs (count_after ps old) ≡ count_after (ps ++ qs) old
  unfolding count_after
  count-both old = go ps qs
    where
      go : (ps qs : List (List ℕ)) → count_after qs (count_after ps old) ≡ count_after (ps ++ qs) old
      go [] qs = refl
      go (p ∷ ps) [] = ap (λ l. count_after l old) (sym (append-nil (p ∷ ps)))
      go (p ∷ ps) (q ∷ qs) =
          count-on 2 (number old + length (p ∷ ps)) (length (q ∷ qs))
          ∙ ap (bytes_of 2) (omega (arith, length-append ps (q ∷ qs)))

  pub count-either : (old : List ℕ) → count_after (ps ++ qs) old ≡ count_after (qs ++ ps) old
  unfolding count_after
  count-either old = go ps qs
    where
      go : (ps qs : List (List ℕ)) → count_after (ps ++ qs) old ≡ count_after (qs ++ ps) old
      go [] [] = refl
      go [] (q ∷ qs) = ap (λ l. count_after l old) (sym (append-nil (q ∷ qs)))
      go (p ∷ ps) [] = ap (λ l. count_after l old) (append-nil (p ∷ ps))
      go (p ∷ ps) (q ∷ qs) = ap (bytes_of 2) (omega (arith, length-append ps (q ∷ qs), length-append qs (p ∷ ps)))

-- All packets of one list and then all of another do what the records do: those of the one and then those of the other.
pub record Turned (ps qs : List (List ℕ)) (xs ys : List Step) (store : List ℕ) (t : InTurn) : Type 0 where
  pub count : bytes_of_count t.other.store ≡ count_after (ps ++ qs) (bytes_of_count store)
  pub accepted : (t.one.accepted && t.other.accepted) ≡ true
  pub bytes : length t.other.store ≡ length store
  pub cells : blank t.other.store ≡ blank (store_after ys (store_after xs store))
  pub one-values : t.one.replies ≡ values_read xs store
  pub other-values : t.other.replies ≡ values_read ys (store_after xs store)
  pub unlock : (i : ℕ) → unlock_cell ≤ i → i < unlock_cell + 2
      → get_or t.other.store i 0 ≡ unlock_after (ps ++ qs) (get_or store i 0)

pub turned : (ps qs : List (List ℕ)) (xs ys : List Step) → Holds ps xs → Holds qs ys → Good xs → Good ys
    → (store : List ℕ) (p : Pointers) (rooms more : ℕ → List ℕ) → bad_state store p ≡ false
    → ((i : ℕ) → length (rooms i) ≡ limit) → ((i : ℕ) → length (more i) ≡ limit)
    → Turned ps qs xs ys store (in_turn ps qs rooms more store p)
unfolding in_turn
turned ps qs xs ys hx hy gx gy store p rooms more fine ok okay =
    let f = play ps rooms store p in
    let s = run_all ps xs hx gx store p rooms fine ok in
    let next = (state-kept ps xs hx store p rooms fine ok).state in
    let r = run_all qs ys hy gy f.store f.pointers more next okay in
    let same = alike ys gy f.store (store_after xs store) (same-blank f.store (store_after xs store) s.bytes s.cells) in
    let other = play qs more f.store f.pointers in
    record {
      count = r.count ∙ ap (count_after qs) s.count ∙ count-both ps qs (bytes_of_count store);
      accepted = rw (s.accepted, r.accepted);
      bytes = r.bytes ∙ length-after ys f.store ∙ s.bytes ∙ length-after xs store;
      cells = same-blank other.store (store_after ys f.store) r.bytes r.cells ∙ same.1;
      one-values = s.values;
      other-values = r.values ∙ same.0;
      unlock = λ i h k. r.unlock i h k ∙ ap (unlock_after qs) (s.unlock i h k) ∙ unlock-both ps qs (get_or store i 0);
    }
