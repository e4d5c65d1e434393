-- Laws of texts taken apart.
use Prim.Native.Nat.{ℕ, zero, suc, ◌+◌, ◌-◌, ◌*◌, ◌/◌, min, ◌≤◌, ◌<◌}
use mathlib.Core.Logic.{◌≢◌}
use mathlib.Core.Path.{◌≡◌, refl, sym, ap, ap₂, ◌∙◌}
use mathlib.Core.List.{List, [], ◌∷◌}
use mathlib.Core.Bool.{Bool, true, false, not, ◌&&◌, cond}
use native.Mathlib.Omega.{arith}
use native.Mathlib.Numerals.{add-one}
use native.Mathlib.Decide.{dec_le, dec_lt}
use lib.ListN.{length, get_or, take, drop, length-drop, drop_of_length-le}
use lib.Seq.{drop-cons, take_all, length-take-le}
use lib.Dec.{eqb, ltb}
use lib.Pointwise.{pointwise}
use borrow.Author.Tests.{eqb-true, eq-eqb, ne_eqb, lt-ltb, le-ltb}
use Rattle.std.specs.Prelude.{Option, Some, None}
use Rattle.std.specs.Option.{unwrap_or}
use Rattle.std.specs.List.{position, position_or_len}
use Rattle.std.specs.Simd.{first_chunks}
use Rattle.std.specs.Cmp.Lexicographic.{unequal}
use Rattle.std.proofs.Math.Bool.{and_assoc, and_comm}
use Rattle.std.proofs.lemmas.List.{drop-drop}
use Rattle.std.proofs.lemmas.List.Recursion.{is_position_or_len}
use Rattle.text.specs.Number.{ascii}
use Rattle.text.specs.Find.{bytes_before, capital, hex_value, same_bytes}

pub before-within : (b : ℕ) (s : List ℕ) → bytes_before b s ≤ length s
unfolding bytes_before
before-within b [] = omega arith
before-within b (c ∷ s) = go (eqb c b) (before-within b s)
  where
    go : (t : Bool) → bytes_before b s ≤ length s → cond t 0 (suc (bytes_before b s)) ≤ length (c ∷ s)
    go true h = omega arith
    go false h = omega arith

-- the library counts the same bytes
before-is : (b : ℕ) (s : List ℕ) → bytes_before b s ≡ position_or_len (λ c. eqb c b) s
unfolding bytes_before
before-is b s = is_position_or_len (bytes_before b) (λ c. eqb c b) refl (λ c cs. ap (cond (eqb c b) 0) (omega arith)) s

pub before-found : (b : ℕ) (s : List ℕ) {found : Option ℕ} → found ≡ position (λ c. eqb c b) s → unwrap_or found (length s) ≡ bytes_before b s
before-found b s e = rw (e, ← before-is b s) (go (dec_lt (bytes_before b s) (length s)))
  where
    go : Dec (bytes_before b s < length s)
        → unwrap_or (cond (ltb (bytes_before b s) (length s)) (Some (bytes_before b s)) None) (length s) ≡ bytes_before b s
    go (yes h) = rw (lt-ltb _ _ h) refl
    go (no h) = let w = before-within b s in rw (le-ltb (bytes_before b s) (length s) (omega arith)) (omega arith)

-- what stands from a place on, as the place is held within the memory
module _ (memory : List ℕ) (place from : ℕ) where
  pub rest-is : from ≡ min place (length memory) → take (length memory - from) (drop from memory) ≡ drop place memory
  rest-is e = take_all (length memory - from) (drop from memory) (rw length-drop (omega arith)) ∙ go (dec_le place (length memory))
    where
      go : Dec (place ≤ length memory) → drop from memory ≡ drop place memory
      go (yes h) = let q : from ≡ place = omega arith in rw q refl
      go (no h) =
          let a : length memory ≤ from = omega arith in
          let b : length memory ≤ place = omega arith in
          drop_of_length-le memory a ∙ sym (drop_of_length-le memory b)

-- as many bytes as stand before one can be taken
pub string_count : (b : ℕ) (s : List ℕ) {n : ℕ} → n ≡ bytes_before b s → n ≡ length (take n s)
string_count b s {n} e = sym (length-take-le n s (rw e (before-within b s)))

-- a test that holds of every number below a bound, computed
abbrev all_below : (ℕ → Bool) → ℕ → Bool
all_below f zero = true
all_below f (suc n) = f n && all_below f n

below_holds : (f : ℕ → Bool) (n c : ℕ) → all_below f n ≡ true → c < n → f c ≡ true
below_holds f zero c e h = absurd (omega arith)
below_holds f (suc n) c e h = go (f n) refl e (below_holds f n c) (dec_le n c)
  where
    go : (t : Bool) → f n ≡ t → (t && all_below f n) ≡ true → (all_below f n ≡ true → c < n → f c ≡ true) → Dec (n ≤ c) → f c ≡ true
    go true p e more (yes k) = let q : c ≡ n = omega arith in rw q p
    go true p e more (no k) = more e (omega arith)
    go false p e more d = let z : ◌≡◌ {A = ℕ} 0 1 = cc in absurd (omega arith)

-- a digit's value by the ranges that it may stand in
abbrev ranged : ℕ → ℕ
ranged c =
    cond (ltb c 48) 16
    (cond (ltb c 58) (c - 48)
    (cond (ltb c 65) 16 (cond (ltb c 71) (c - 55) (cond (ltb c 97) 16 (cond (ltb c 103) (c - 87) 16)))))

all-ranged : all_below (λ c. eqb (hex_value c) (ranged c)) 256 ≡ true
unfolding hex_value capital bytes_before ascii
all-ranged = refl

pub hex_ranged : (c : ℕ) → c < 256 → hex_value c ≡ ranged c
hex_ranged c h = eqb-true (hex_value c) (ranged c) (below_holds (λ c. eqb (hex_value c) (ranged c)) 256 c all-ranged h)

-- The test is the equality of the texts.
pub same_self : (a : List ℕ) → same_bytes a a ≡ true
unfolding same_bytes
same_self [] = refl
same_self (x ∷ a) = rw (eq-eqb x x refl) (same_self a)

pub same-is : (a b : List ℕ) → same_bytes a b ≡ true → a ≡ b
unfolding same_bytes
same-is [] [] e = refl
same-is [] (y ∷ b) e = let z : ◌≡◌ {A = ℕ} 0 1 = cc in absurd (omega arith)
same-is (x ∷ a) [] e = let z : ◌≡◌ {A = ℕ} 0 1 = cc in absurd (omega arith)
same-is (x ∷ a) (y ∷ b) e = go (eqb x y) refl e (same-is a b)
  where
    go : (t : Bool) → eqb x y ≡ t → (t && same_bytes a b) ≡ true → (same_bytes a b ≡ true → a ≡ b) → x ∷ a ≡ y ∷ b
    go true p e more = ap₂ (λ u v. u ∷ v) (eqb-true x y p) (more e)
    go false p e more = let z : ◌≡◌ {A = ℕ} 0 1 = cc in absurd (omega arith)

-- the test in two parts
same_parts : (n : ℕ) (a b : List ℕ) → pointwise eqb a b ≡ (pointwise eqb (take n a) (take n b) && pointwise eqb (drop n a) (drop n b))
same_parts zero a b = refl
same_parts (suc n) [] [] = refl
same_parts (suc n) [] (y ∷ b) = refl
same_parts (suc n) (x ∷ a) [] = refl
same_parts (suc n) (x ∷ a) (y ∷ b) = ap (λ t. eqb x y && t) (same_parts n a b) ∙ sym (and_assoc (eqb x y) _ _)

-- by groups of eight, then what is left
later : (k : ℕ) (a : List ℕ) → drop (suc k * 8) a ≡ drop (k * 8) (drop 8 a)
later k a = let e : suc k * 8 ≡ 8 + k * 8 = omega arith in rw e (sym (drop-drop (k * 8) 8 a))

groups_of : (k : ℕ) (a b : List ℕ)
    → pointwise eqb a b ≡ (pointwise (pointwise eqb) (first_chunks 8 k a) (first_chunks 8 k b) && pointwise eqb (drop (k * 8) a) (drop (k * 8) b))
groups_of zero a b = refl
groups_of (suc k) a b =
    let front : Bool = pointwise eqb (take 8 a) (take 8 b) in
    rw (later k a, later k b) (same_parts 8 a b ∙ ap (λ t. front && t) (groups_of k (drop 8 a) (drop 8 b)) ∙ sym (and_assoc front _ _))

pub by_eights : (a b : List ℕ) → length a ≡ length b
    → same_bytes a b ≡ (same_bytes (drop (length a / 8 * 8) a) (drop (length b / 8 * 8) b)
    && pointwise same_bytes (first_chunks 8 (length a / 8) a) (first_chunks 8 (length b / 8) b))
unfolding same_bytes
by_eights a b e =
    let k = length a / 8 in
    let groups : Bool = pointwise (pointwise eqb) (first_chunks 8 k a) (first_chunks 8 k b) in
    rw (← e) (groups_of k a b ∙ and_comm groups (pointwise eqb (drop (k * 8) a) (drop (k * 8) b)))

pub same_lengths : (a b : List ℕ) → length a ≢ length b → same_bytes a b ≡ false
unfolding same_bytes
same_lengths = unequal eqb

-- one pair at a time
module _ {X : Type 0} (E : X → X → Bool) (a b : List X) (i : ℕ) where
  pair_next : (d : X) → i < length a → i < length b
      → pointwise E (drop i a) (drop i b) ≡ (E (get_or a i d) (get_or b i d) && pointwise E (drop (i + 1) a) (drop (i + 1) b))
  pair_next d h k = rw (drop-cons a i d h, drop-cons b i d k, add-one) refl

  pair_end : length a ≤ i → length b ≤ i → pointwise E (drop i a) (drop i b) ≡ true
  pair_end h k = rw (drop_of_length-le a h, drop_of_length-le b k) refl

module _ (a b : List ℕ) (i : ℕ) where
  pub same_next : i < length a → i < length b → get_or a i 0 ≡ get_or b i 0
      → same_bytes (drop i a) (drop i b) ≡ same_bytes (drop (i + 1) a) (drop (i + 1) b)
  unfolding same_bytes
  same_next h k e = pair_next eqb a b i 0 h k ∙ rw (eq-eqb (get_or a i 0) (get_or b i 0) e) refl

  pub same_differs : i < length a → i < length b → get_or a i 0 ≢ get_or b i 0 → same_bytes (drop i a) (drop i b) ≡ false
  unfolding same_bytes
  same_differs h k e = pair_next eqb a b i 0 h k ∙ rw (ne_eqb (get_or a i 0) (get_or b i 0) e) refl

  pub same_end : length a ≤ i → length b ≤ i → same_bytes (drop i a) (drop i b) ≡ true
  unfolding same_bytes
  same_end = pair_end eqb a b i

-- what a test for another group tells
was_same : (p q : Bool) → false ≡ not p → (p && q) ≡ q
was_same true q e = refl
was_same false q e = cc

was_other : (p q : Bool) → true ≡ not p → (p && q) ≡ false
was_other true q e = cc
was_other false q e = refl

module _ (a b : List (List ℕ)) (i : ℕ) where
  pub group_next : i < length a → i < length b → false ≡ not (pointwise eqb (get_or a i []) (get_or b i []))
      → pointwise same_bytes (drop i a) (drop i b) ≡ pointwise same_bytes (drop (i + 1) a) (drop (i + 1) b)
  unfolding same_bytes
  group_next h k e = pair_next (pointwise eqb) a b i [] h k ∙ was_same (pointwise eqb (get_or a i []) (get_or b i [])) _ e

  pub group_differs : i < length a → i < length b → true ≡ not (pointwise eqb (get_or a i []) (get_or b i []))
      → pointwise same_bytes (drop i a) (drop i b) ≡ false
  unfolding same_bytes
  group_differs h k e = pair_next (pointwise eqb) a b i [] h k ∙ was_other (pointwise eqb (get_or a i []) (get_or b i [])) _ e

  pub group_end : length a ≤ i → length b ≤ i → pointwise same_bytes (drop i a) (drop i b) ≡ true
  unfolding same_bytes
  group_end = pair_end (pointwise eqb) a b i
