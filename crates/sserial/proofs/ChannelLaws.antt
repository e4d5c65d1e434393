-- Words as rows of three, taken apart and put back.
use Prim.Native.Nat.{ℕ, zero, suc, ◌+◌, ◌*◌, ◌≤◌, ◌<◌}
use mathlib.Core.Path.{◌≡◌, refl, sym, ap, ◌∙◌}
use mathlib.Core.List.{List, [], ◌∷◌, ◌++◌, append_assoc, append-nil}
use native.Mathlib.Omega.{arith}
use native.Mathlib.Numerals.{add-one}
use native.Mathlib.Nat.{mul-suc}
use lib.ListN.{length, get_or, take, drop, set, length-append, take-append-drop, drop_of_length-le}
use lib.Seq.{take-add, sets, sets-eq, length-sets, drop-cons, take-suc, drop-drop, take_all}
use Rattle.lbp16.proofs.ListLaws.{sets_append, stored-whole}
use Rattle.sserial.specs.Inside.{rows_from, flat}

pub row_is : (ws : List ℕ) (at : ℕ) → at + 3 ≤ length ws
    → get_or ws at 0 ∷ get_or ws (at + 1) 0 ∷ get_or ws (at + 2) 0 ∷ [] ≡ take 3 (drop at ws)
row_is ws at h =
    let one : at + 1 ≡ suc at = omega arith in
    let two : at + 2 ≡ suc (suc at) = omega arith in
    rw (one, two, drop-cons ws at 0 (omega arith), drop-cons ws (suc at) 0 (omega arith), drop-cons ws (suc (suc at)) 0 (omega arith)) refl

pub three_sets : (l : List ℕ) (at : ℕ) (row : List ℕ) → length row ≡ 3
    → set (set (set l at (get_or row 0 0)) (at + 1) (get_or row 1 0)) (at + 2) (get_or row 2 0) ≡ sets l at row
three_sets l at [] h = absurd (omega arith)
three_sets l at (a ∷ []) h = absurd (omega arith)
three_sets l at (a ∷ b ∷ []) h = absurd (omega arith)
three_sets l at (a ∷ b ∷ c ∷ d ∷ row) h = absurd (omega arith)
three_sets l at (a ∷ b ∷ c ∷ []) h =
    let one : at + 1 ≡ suc at = omega arith in
    let two : at + 2 ≡ suc (suc at) = omega arith in
    rw (one, two) refl

-- the first i rows put back
pub record Rows (all : List (List ℕ)) (before words : List ℕ) (i : ℕ) : Type 0 where
  pub rows : i ≤ 8
  pub room : length words ≡ 24
  pub long : length (flat (take i all)) ≡ 3 * i
  pub same : words ≡ sets before 0 (flat (take i all))

flat_snoc : (rs : List (List ℕ)) (r : List ℕ) → flat (rs ++ (r ∷ [])) ≡ flat rs ++ r
unfolding flat
flat_snoc [] r = append-nil r
flat_snoc (s ∷ rs) r = rw (flat_snoc rs r, append_assoc) refl

module _ (all : List (List ℕ)) (before words : List ℕ) (i : ℕ) (eight : length all ≡ 8) (h : Rows all before words i) where
  pub rows_more : (after : List ℕ) → i < 8 → length (get_or all i []) ≡ 3 → after ≡ sets words (3 * i) (get_or all i [])
      → Rows all before after (i + 1)
  rows_more after l t e =
      let n : flat (take (suc i) all) ≡ flat (take i all) ++ get_or all i [] =
      ap flat (take-suc all i [] (omega arith)) ∙ flat_snoc (take i all) (get_or all i []) in
      let w : length (flat (take i all)) ≡ 3 * i = h.long in
      let z : 0 + 3 * i ≡ 3 * i = omega arith in
      record {
        rows = omega arith;
        room = rw e (length-sets words (3 * i) (get_or all i []) ∙ h.room);
        long = rw (add-one i, n, length-append) (rw mul-suc (omega arith));
        same = rw (add-one i, n, ← sets_append before 0 (flat (take i all)) (get_or all i []), w, z, ← h.same) e;
      }

  pub rows_all : 8 ≤ i → length before ≡ 24 → words ≡ flat all
  rows_all l b =
      let t : take i all ≡ all = take_all i all (omega arith) in
      let m : length (flat all) ≡ 3 * i = rw t at h.long in
      let r = h.rows in
      h.same ∙ (rw t (stored-whole (flat all) before (omega arith)))

pub rows-first : (all : List (List ℕ)) (words : List ℕ) → length words ≡ 24 → Rows all words words 0
unfolding flat
rows-first all words h = record { rows = omega arith; room = h; long = refl; same = refl }

-- row `channel` of the rows, and the words with that row set
module _ (ws : List ℕ) where
  pub row_at : (k i channel : ℕ) → channel < k → get_or (rows_from k i ws) channel [] ≡ take 3 (drop (i + 3 * channel) ws)
  unfolding rows_from
  row_at zero i channel h = absurd (omega arith)
  row_at (suc k) i zero h = let e : i + 3 * 0 ≡ i = omega arith in rw e refl
  row_at (suc k) i (suc channel) h =
      let e : i + 3 * suc channel ≡ i + 3 + 3 * channel = rw mul-suc (omega arith) in
      rw e (row_at k (i + 3) channel (omega arith))

  flat_rows : (k i : ℕ) → i + 3 * k ≡ length ws → flat (rows_from k i ws) ≡ drop i ws
  unfolding rows_from flat
  flat_rows zero i h = sym (drop_of_length-le ws {i = i} (omega arith))
  flat_rows (suc k) i h =
      let m : 3 * suc k ≡ 3 * k + 3 = mul-suc 3 k in
      rw (flat_rows k (i + 3) (omega arith), ← drop-drop 3 i ws) (take-append-drop 3 (drop i ws))

  flat-set : (k i channel : ℕ) (row : List ℕ) → i + 3 * k ≡ length ws → channel < k
      → flat (set (rows_from k i ws) channel row) ≡ take (3 * channel) (drop i ws) ++ (row ++ drop (i + 3 * channel + 3) ws)
  unfolding rows_from flat
  flat-set zero i channel row h l = absurd (omega arith)
  flat-set (suc k) i zero row h l =
      let m : 3 * suc k ≡ 3 * k + 3 = mul-suc 3 k in
      let e : i + 3 * 0 + 3 ≡ i + 3 = omega arith in
      rw (e, flat_rows k (i + 3) (omega arith)) refl
  flat-set (suc k) i (suc channel) row h l =
      let m : 3 * suc k ≡ 3 * k + 3 = mul-suc 3 k in
      let n : 3 * suc channel ≡ 3 + 3 * channel = rw mul-suc (omega arith) in
      let e : i + 3 * suc channel + 3 ≡ i + 3 + 3 * channel + 3 = omega arith in
      rw (e, n, take-add 3 (3 * channel) (drop i ws), drop-drop 3 i ws, append_assoc, flat-set k (i + 3) channel row (omega arith) (omega arith)) refl

  pub channel_set : (channel : ℕ) (row : List ℕ) → length ws ≡ 24 → channel < 8 → length row ≡ 3
      → flat (set (rows_from 8 0 ws) channel row) ≡ sets ws (3 * channel) row
  channel_set channel row n l t =
      let e : 0 + 3 * channel + 3 ≡ 3 * channel + length row = omega arith in
      flat-set 8 0 channel row (omega arith) l ∙ (rw e (sym (append_assoc (take (3 * channel) ws) row (drop (3 * channel + length row) ws))))
      ∙ sym (sets-eq row ws (3 * channel) (omega arith))
