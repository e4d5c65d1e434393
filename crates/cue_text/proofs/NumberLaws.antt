-- Laws of words as numbers.
use Prim.Native.Nat.{ℕ, zero, suc, ◌+◌, ◌*◌, ◌≤◌, ◌<◌}
use mathlib.Core.Path.{◌≡◌, refl}
use mathlib.Core.List.{List, [], ◌∷◌}
use mathlib.Core.Bool.{Bool, true, false, not, ◌&&◌, ◌||◌, cond, and-false}
use native.Mathlib.Omega.{arith}
use native.Mathlib.Numerals.{add-one}
use native.Mathlib.Decide.{dec_le}
use lib.ListN.{length, get_or, drop, drop_of_length-le}
use lib.Seq.{drop-cons}
use lib.Dec.{eqb, ltb}
use borrow.Author.Tests.{lt-ltb, le-ltb, ne_eqb}
use Rattle.std.proofs.Common.{Option, Some, None, Result, Ok, Err, OkIff}
use Rattle.std.specs.Result.{result_ok}
use Rattle.text.specs.Number.{ascii}
use Rattle.text.specs.Find.{hex_value, same_bytes}
use Rattle.cue_text.specs.Numbers.{Value, all_digits, digits_from, digits_value, is_hex, number_of, up_to, value_of}
use Rattle.cue_text.specs.Inside.{most_held}

-- digits make a number no smaller
digits_up : (base n : ℕ) (cs : List ℕ) → 1 ≤ base → n ≤ digits_from base n cs
unfolding digits_from
digits_up base n [] h = omega arith
digits_up zero n (c ∷ cs) h = absurd (omega arith)
digits_up (suc k) n (c ∷ cs) h = let g = digits_up (suc k) (suc k * n + hex_value c) cs h in omega arith

-- the digits so far
pub record Reading (word : List ℕ) (base n i : ℕ) : Type 0 where
  pub number : digits_from base n (drop i word) ≡ digits_from base 0 word
  pub all : all_digits base (drop i word) ≡ all_digits base word
  pub held : n ≤ most_held

pub read_first : (word : List ℕ) (base : ℕ) → Reading word base 0 0
read_first word base = record { number = refl; all = refl; held = omega arith }

-- a number that is too large
too_large : (t : Bool) (n : ℕ) → most_held < n → None ≡ up_to most_held (cond t (Some n) None)
unfolding up_to
too_large true n h = rw (lt-ltb most_held n h) refl
too_large false n h = refl

module _ (word : List ℕ) (base n i : ℕ) (r : Reading word base n i) where
  pub read-bad : i < length word → base ≤ hex_value (get_or word i 0) → None ≡ up_to most_held (digits_value base word)
  unfolding all_digits digits_value up_to
  read-bad h l =
      let e : false ≡ all_digits base word = rw (drop-cons word i 0 h, le-ltb (hex_value (get_or word i 0)) base l) at r.all in
      rw (← e) refl

  pub read-over : 1 ≤ base → i < length word → most_held < base * n + hex_value (get_or word i 0)
      → None ≡ up_to most_held (digits_value base word)
  unfolding digits_from digits_value
  read-over b h l =
      let d = hex_value (get_or word i 0) in
      let e : digits_from base (base * n + d) (drop (suc i) word) ≡ digits_from base 0 word = rw (drop-cons word i 0 h) at r.number in
      let g = digits_up base (base * n + d) (drop (suc i) word) b in
      too_large (all_digits base word && not (eqb (length word) 0)) (digits_from base 0 word) (omega (arith, e, g, l))

  pub read_next : i < length word → hex_value (get_or word i 0) < base → {m : ℕ} → m ≡ base * n + hex_value (get_or word i 0)
      → m ≤ most_held → Reading word base m (i + 1)
  unfolding all_digits digits_from
  read_next h l {m} e few =
      record {
        number = rw (e, add-one) (rw (drop-cons word i 0 h) at r.number);
        all = rw add-one (rw (drop-cons word i 0 h, lt-ltb (hex_value (get_or word i 0)) base l) at r.all);
        held = few;
      }

  pub read-last : length word ≤ i → 0 < length word → Some n ≡ up_to most_held (digits_value base word)
  unfolding all_digits digits_from digits_value up_to
  read-last l some =
      let number : n ≡ digits_from base 0 word = rw (drop_of_length-le word l) at r.number in
      let all : true ≡ all_digits base word = rw (drop_of_length-le word l) at r.all in
      rw (← all, ne_eqb (length word) 0 (omega arith), ← number, le-ltb most_held n r.held) refl

pub read-none : (word : List ℕ) (base : ℕ) → length word ≡ 0 → None ≡ up_to most_held (digits_value base word)
unfolding all_digits digits_value up_to
read-none [] base h = refl
read-none (c ∷ word) base h = absurd (omega arith)

-- 0x and 0X
pub hex_short : (w : List ℕ) → length w < 2 → false ≡ is_hex w
unfolding is_hex same_bytes ascii
hex_short [] h = refl
hex_short (a ∷ []) h = rw and-false refl
hex_short (a ∷ b ∷ w) h = absurd (omega arith)

pub hex_two : (w : List ℕ) → 2 ≤ length w → (eqb (get_or w 0 0) 48 && (eqb (get_or w 1 0) 120 || eqb (get_or w 1 0) 88)) ≡ is_hex w
unfolding is_hex same_bytes ascii
hex_two [] h = absurd (omega arith)
hex_two (a ∷ []) h = absurd (omega arith)
hex_two (a ∷ b ∷ w) h = go (eqb a 48) (eqb b 120) (eqb b 88)
  where
    go : (t u v : Bool) → (t && (u || v)) ≡ ((t && (u && true)) || (t && (v && true)))
    go true true v = refl
    go true false true = refl
    go true false false = refl
    go false u v = refl

-- what 32 bits hold is as good as the number, where the most is below it
up_to-less : (m : ℕ) (v : Value) → m ≤ most_held → up_to m (up_to most_held v) ≡ up_to m v
unfolding up_to
up_to-less m None h = refl
up_to-less m (Some n) h = go (dec_le n most_held)
  where
    go : Dec (n ≤ most_held) → up_to m (cond (ltb most_held n) None (Some n)) ≡ cond (ltb m n) None (Some n)
    go (yes l) = rw (le-ltb most_held n l) refl
    go (no l) = rw (lt-ltb most_held n (omega arith), lt-ltb m n (omega arith)) refl

-- a number as a narrower one
pub narrow : {E : Type 0} (m n : ℕ) (t : Result ℕ E) {r : Option ℕ} → r ≡ result_ok t → OkIff t (n < m + 1) n → r ≡ cond (ltb m n) None (Some n)
narrow m n (Ok x) e h = rw (e, h.1, le-ltb m n (omega (arith, h.0))) refl
narrow m n (Err x) e h = rw (e, lt-ltb m n (omega (arith, h))) refl

pub narrowed : (m : ℕ) (w : List ℕ) → m ≤ most_held → {v : Value} → v ≡ value_of w → up_to m v ≡ up_to m (number_of w)
unfolding value_of
narrowed m w h e = rw e (up_to-less m (number_of w) h)
