-- Laws of decimal numbers: the digits read back give the number, and no digit 0 stands in front.
use Prim.Native.Nat.{ℕ, zero, suc, ◌+◌, ◌-◌, ◌*◌, ◌/◌, ◌%◌, ◌^◌, ◌≤◌, ◌<◌}
use mathlib.Core.Path.{◌≡◌, refl, ap, sym, ◌∙◌}
use mathlib.Core.List.{List, [], ◌∷◌, ◌++◌, append_assoc}
use mathlib.Core.Bool.{Bool, true, false, cond}
use native.Mathlib.Omega.{arith}
use native.Mathlib.Numerals.{sub-one}
use native.Mathlib.Nat.{pow-succ'}
use lib.ListN.{length, get_or, take, drop, set, length-drop, length-append, length-set, drop_of_length-le}
use lib.Dec.{ltb}
use lib.Seq.{take_all}
use borrow.Author.Tests.{ltb-true, ltb-false, lt-ltb, le-ltb}
use Rattle.text.specs.Number.{digit, decimal, decimal_from}

-- more fuel changes nothing
fuel-enough : (f g n : ℕ) → n ≤ f → n ≤ g → decimal_from f n ≡ decimal_from g n
unfolding decimal_from
fuel-enough zero zero n h k = refl
fuel-enough zero (suc g) n h k =
    let z : n ≡ 0 = omega arith in rw z refl
fuel-enough (suc f) zero n h k =
    let z : n ≡ 0 = omega arith in rw z refl
fuel-enough (suc f) (suc g) n h k = go (ltb n 10) refl (fuel-enough f g (n / 10))
  where
    last : List ℕ
    last = digit (n % 10) ∷ []

    go : (b : Bool) → ltb n 10 ≡ b → (n / 10 ≤ f → n / 10 ≤ g → decimal_from f (n / 10) ≡ decimal_from g (n / 10))
        → cond b (digit n ∷ []) (decimal_from f (n / 10) ++ last)
        ≡ cond b (digit n ∷ []) (decimal_from g (n / 10) ++ last)
    go true e more = refl
    go false e more = let l = ltb-false n 10 e in ap (λ (ds : List ℕ). ds ++ last) (more (omega arith) (omega arith))

-- the digits one by one: a number below ten is one digit, and any other has its last digit behind the rest
pub decimal_digit : (n : ℕ) → n < 10 → decimal n ≡ digit n ∷ []
unfolding decimal decimal_from
decimal_digit zero h = refl
decimal_digit (suc n) h = rw (lt-ltb (suc n) 10 h) refl

pub decimal-more : (n : ℕ) → 10 ≤ n → decimal n ≡ decimal (n / 10) ++ (digit (n % 10) ∷ [])
unfolding decimal decimal_from
decimal-more zero h = absurd (omega arith)
decimal-more (suc n) h =
    rw (le-ltb (suc n) 10 h, fuel-enough n (suc n / 10) (suc n / 10) (omega arith) (omega arith)) refl

-- What holds of one digit, and of a digit more behind, holds of every number's digits.
module _ (P : ℕ → List ℕ → Type 0) (one : (n : ℕ) → n < 10 → P n (digit n ∷ []))
    (more : (n : ℕ) (ds : List ℕ) → 10 ≤ n → P (n / 10) ds → P n (ds ++ (digit (n % 10) ∷ []))) where
  all-below : (most n : ℕ) → n ≤ most → P n (decimal n)
  all-below zero n h = rw (decimal_digit n (omega arith)) (one n (omega arith))
  all-below (suc most) n h = go (ltb n 10) refl (all-below most (n / 10))
    where
      go : (b : Bool) → ltb n 10 ≡ b → (n / 10 ≤ most → P (n / 10) (decimal (n / 10))) → P n (decimal n)
      go true e less = let l = ltb-true _ _ e in rw (decimal_digit n l) (one n l)
      go false e less = let l = ltb-false _ _ e in rw (decimal-more n l) (more n _ l (less (omega arith)))

  pub decimal-all : (n : ℕ) → P n (decimal n)
  decimal-all n = all-below n n (omega arith)

-- the number that digits make behind a number v
unfoldable pub read_from : ℕ → List ℕ → ℕ
read_from v [] = v
read_from v (d ∷ ds) = read_from (10 * v + (d - digit 0)) ds

read-append : (v : ℕ) (ds es : List ℕ) → read_from v (ds ++ es) ≡ read_from (read_from v ds) es
unfolding read_from
read-append v [] es = refl
read-append v (d ∷ ds) es = read-append (10 * v + (d - digit 0)) ds es

-- The digits of a number, read back, give the number.
pub decimal-reads : (n : ℕ) → read_from 0 (decimal n) ≡ n
unfolding read_from digit
decimal-reads =
    decimal-all (λ n ds. read_from 0 ds ≡ n) (λ n h. omega arith)
    (λ n ds h e. rw (read-append 0 ds _, e) (omega arith))

-- every byte is a digit
unfoldable pub Digits : List ℕ → Type 0
Digits [] = Unit {0}
Digits (d ∷ ds) = (digit 0 ≤ d) × (d ≤ digit 9) × Digits ds

digits_append : (ds es : List ℕ) → Digits ds → Digits es → Digits (ds ++ es)
unfolding Digits
digits_append [] es p q = q
digits_append (d ∷ ds) es p q = (p.0, p.1, digits_append ds es p.2 q)

pub decimal-digits : (n : ℕ) → Digits (decimal n)
unfolding Digits digit
decimal-digits =
    decimal-all (λ n ds. Digits ds) (λ n h. (omega arith, omega arith, tt))
    (λ n ds h p. digits_append ds (digit (n % 10) ∷ []) p (omega arith, omega arith, tt))

-- a number below 10 ^ k has at most k digits, where k is not 0
pub decimal-length : (k n : ℕ) → n < 10 ^ suc k → length (decimal n) ≤ suc k
decimal-length zero n h = rw (decimal_digit n (omega arith)) (omega arith)
decimal-length (suc k) n h = go (ltb n 10) refl (decimal-length k (n / 10))
  where
    go : (b : Bool) → ltb n 10 ≡ b → (n / 10 < 10 ^ suc k → length (decimal (n / 10)) ≤ suc k)
        → length (decimal n) ≤ suc (suc k)
    go true e less = rw (decimal_digit n (ltb-true n 10 e)) (omega arith)
    go false e less =
        let p : n < 10 * 10 ^ suc k = rw pow-succ' at h in
        let l = less (omega arith) in
        rw (decimal-more n (ltb-false n 10 e), length-append) (omega arith)

first-append : (d : ℕ) (ds es : List ℕ) → 1 ≤ d → d ≤ get_or ds 0 0 → d ≤ get_or (ds ++ es) 0 0
first-append d [] es p h = absurd (omega arith)
first-append d (e ∷ ds) es p h = h

-- The first digit is 0 only where the number is.
pub decimal-first : (n : ℕ) → 1 ≤ n → digit 1 ≤ get_or (decimal n) 0 0
unfolding digit
decimal-first =
    decimal-all (λ n ds. 1 ≤ n → digit 1 ≤ get_or ds 0 0) (λ n h p. omega arith)
    (λ n ds h first p. first-append 49 ds _ (omega arith) (first (omega arith)))

-- The digits before the last of what is left: none of 0.
pub front : ℕ → List ℕ
front zero = []
front (suc n) = decimal (suc n)

front-some : (n : ℕ) → (n ≡ 0 → ⊥) → front n ≡ decimal n
unfolding front
front-some zero h = absurd (h refl)
front-some (suc n) h = refl

decimal-front : (n : ℕ) → front (n / 10) ++ (digit (n % 10) ∷ []) ≡ decimal n
unfolding front
decimal-front n = go (ltb n 10) refl
  where
    go : (b : Bool) → ltb n 10 ≡ b → front (n / 10) ++ (digit (n % 10) ∷ []) ≡ decimal n
    go true e =
        let l = ltb-true n 10 e in
        let z : n / 10 ≡ 0 = omega arith in
        let m : n % 10 ≡ n = omega arith in
        rw (z, m, decimal_digit n l) refl
    go false e =
        let l = ltb-false n 10 e in
        rw (front-some (n / 10) (λ z. omega arith), decimal-more n l) refl

drop-set : (l : List ℕ) (i x : ℕ) → i < length l → drop i (set l i x) ≡ x ∷ drop (suc i) l
drop-set [] i x h = absurd (omega arith)
drop-set (y ∷ l) zero x h = refl
drop-set (y ∷ l) (suc i) x h = drop-set l i x (omega arith)

one_more_lem : (left : ℕ) (rest : List ℕ) → (left ≡ 0 → ⊥) → front (left / 10) ++ (digit (left % 10) ∷ rest) ≡ front left ++ rest
one_more_lem left rest h =
    sym (append_assoc (front (left / 10)) (digit (left % 10) ∷ []) rest)
    ∙ ap (λ (l : List ℕ). l ++ rest) (decimal-front left ∙ sym (front-some left h))

-- Digits found from the last on: those from i on stand in the room, and those of `left` are to come.
pub record Counting (n : ℕ) (room : List ℕ) (i left : ℕ) : Type 0 where
  pub size : length room ≡ 20
  pub within : i ≤ 19
  pub few : left < 10 ^ i
  pub digits : front left ++ drop i room ≡ decimal n

pub counting-first : (n : ℕ) (room : List ℕ) (d : ℕ) → n < 2 ^ 64 → length room ≡ 20 → d ≡ digit (n % 10)
    → Counting n (set room 19 d) 19 (n / 10)
counting-first n room d h s e =
    let all : length room ≤ 20 = omega arith in
    let none : drop 20 room ≡ [] = drop_of_length-le room all in
    record {
      size = rw length-set s;
      within = omega arith;
      few = omega arith;
      digits = rw (drop-set room 19 d (omega arith), none, e) (decimal-front n);
    }

pub counting_more : (n : ℕ) (room : List ℕ) (i left d : ℕ) → Counting n room i left → (left ≡ 0 → ⊥) → d ≡ digit (left % 10)
    → Counting n (set room (i - 1) d) (i - 1) (left / 10)
counting_more n room zero left d c h e = let f = c.few in absurd (h (omega arith))
counting_more n room (suc k) left d c h e =
    let w = c.within in
    let s = c.size in
    let f : left < 10 * 10 ^ k = rw pow-succ' at c.few in
    rw sub-one (record {
      size = rw length-set s;
      within = omega arith;
      few = omega arith;
      digits = rw (drop-set room k d (omega arith), e) (one_more_lem left (drop (suc k) room) h ∙ c.digits);
    })

pub counting-some : (n : ℕ) (room : List ℕ) (i left : ℕ) → Counting n room i left → (left ≡ 0 → ⊥) → 1 ≤ i
counting-some n room zero left c h = let f = c.few in absurd (h (omega arith))
counting-some n room (suc k) left c h = omega arith

pub counting-all : (n : ℕ) (room : List ℕ) (i left : ℕ) → Counting n room i left → left ≡ 0 → take (20 - i) (drop i room) ≡ decimal n
unfolding front
counting-all n room i left c z =
    let s = c.size in
    let all : length (drop i room) ≤ 20 - i = rw length-drop (omega arith) in
    rw (take_all (20 - i) (drop i room) all) (rw z at c.digits)
