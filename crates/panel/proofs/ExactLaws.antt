-- Rounding where nothing is lost: a float of binary32 is written in one way, so a fraction of its value rounds to it.
use Prim.Native.Nat.{ℕ, zero, suc, ◌+◌, ◌-◌, ◌*◌, ◌%◌, ◌^◌, ◌≤◌, ◌<◌}
use mathlib.Core.Path.{◌≡◌, refl, sym, ap, ◌∙◌}
use mathlib.Core.Bool.{Bool, ◌&&◌}
use native.Mathlib.Nat.{zero-lt-suc, zero-mul, mul-one, one-mul, mul_comm, mul_assoc, mul-pos, pow-suc}
use native.Mathlib.Nat.{eq_of_mul-eq-mul_right, mul-lt-mul_of_pos_right, lt_irrefl, lt_of_not-le, not-le_of_lt}
use native.Mathlib.Nat.{le_of_suc-le-suc}
use native.Mathlib.Omega.{arith}
use lib.IntN.{ℤ, pos, negsuc}
use lib.Dec.{T, eqb, ltb, leb, eqb→eq, ltb→lt, leb→le}
use lib.Pow.{pow-add, pow_pos, pow-lt}
use lib.Ieee.{Float, nan, inf, fin, binary32, up, down, round, fits}
use lib.Ieee.Exact.{HasValue, round_exact}
use lib.Ieee.Fits.{and_l, and_r, up_pos, down_pos, round-fits}
use lib.Ieee.Scale.{round_same}

-- what a float above 0 that fits has
record Fitting (m : ℕ) (e : ℤ) : Type 0 where
  odd : m % 2 ≡ 1
  digits : m < 2 ^ 24
  least : down e ≤ 2 ^ 149
  most : m * up e < 2 ^ 128 * down e

fitting : (s : Bool) (m : ℕ) (e : ℤ) → T (fits binary32 (fin s (suc m) e)) → Fitting (suc m) e
unfolding fits
fitting s m e t =
    let a = eqb (suc m % 2) 1 in
    let b = ltb (suc m) (2 ^ 24) in
    let c = leb (down e) (2 ^ 149) in
    let d = ltb (suc m * up e) (2 ^ 128 * down e) in
    let t3 = and_l (a && b && c) d t in
    let t2 = and_l (a && b) c t3 in
    record {
      odd = eqb→eq _ _ (and_l a b t2);
      digits = ltb→lt _ _ (and_r a b t2);
      least = leb→le _ _ (and_r (a && b) c t3);
      most = ltb→lt _ _ (and_r (a && b && c) d t);
    }

-- an odd number times a power of two is written in one way
even : (m t : ℕ) → m % 2 ≡ 1 → m ≡ t * 2 → ⊥
even m t o h = omega arith

odd_power : (m n a b : ℕ) → m % 2 ≡ 1 → n % 2 ≡ 1 → m * 2 ^ a ≡ n * 2 ^ b → (m ≡ n) × (a ≡ b)
odd_power m n zero zero o p h = (sym (mul-one m) ∙ h ∙ mul-one n, refl)
odd_power m n zero (suc b) o p h =
    absurd (even m (n * 2 ^ b) o (sym (mul-one m) ∙ h ∙ ap (λ x. n * x) (pow-suc 2 b) ∙ sym (mul_assoc n (2 ^ b) 2)))
odd_power m n (suc a) zero o p h =
    absurd (even n (m * 2 ^ a) p (sym (mul-one n) ∙ sym h ∙ ap (λ x. m * x) (pow-suc 2 a) ∙ sym (mul_assoc m (2 ^ a) 2)))
odd_power m n (suc a) (suc b) o p h =
    let less : m * 2 ^ a * 2 ≡ n * 2 ^ b * 2 =
    mul_assoc m (2 ^ a) 2 ∙ ap (λ x. m * x) (sym (pow-suc 2 a)) ∙ h ∙ ap (λ x. n * x) (pow-suc 2 b) ∙ sym (mul_assoc n (2 ^ b) 2) in
    let r = odd_power m n a b o p (eq_of_mul-eq-mul_right 2 (zero-lt-suc 1) _ _ less) in
    (r.0, ap suc r.1)

one_way : (m n : ℕ) (e g : ℤ) → m % 2 ≡ 1 → n % 2 ≡ 1 → m * up e * down g ≡ n * up g * down e → (m ≡ n) × (e ≡ g)
one_way m n (pos a) (pos b) o p h =
    let r = odd_power m n a b o p (sym (mul-one _) ∙ h ∙ mul-one _) in (r.0, ap pos r.1)
one_way m n (negsuc a) (negsuc b) o p h =
    let r = odd_power m n (suc b) (suc a) o p (ap (λ x. x * 2 ^ suc b) (sym (mul-one m)) ∙ h ∙ ap (λ x. x * 2 ^ suc a) (mul-one n)) in
    (r.0, ap negsuc (sym (omega (arith, r.1))))
one_way m n (pos a) (negsuc b) o p h =
    let q : m * 2 ^ (a + suc b) ≡ n * 2 ^ 0 =
    ap (λ x. m * x) (pow-add 2 a (suc b)) ∙ sym (mul_assoc m (2 ^ a) (2 ^ suc b)) ∙ h ∙ mul-one _ in
    absurd (omega (arith, (odd_power m n (a + suc b) 0 o p q).1))
one_way m n (negsuc a) (pos b) o p h =
    let q : n * 2 ^ (b + suc a) ≡ m * 2 ^ 0 =
    ap (λ x. n * x) (pow-add 2 b (suc a)) ∙ sym (mul_assoc n (2 ^ b) (2 ^ suc a)) ∙ sym h ∙ mul-one _ in
    absurd (omega (arith, (odd_power n m (b + suc a) 0 p o q).1))

-- nothing rounds to a zero of its sign
pub round_zero : (s : Bool) (den : ℕ) → 0 < den → round binary32 s 0 den ≡ fin s 0 (pos 0)
unfolding round
round_zero s den h = round_same binary32 s 0 den 0 1 h (zero-lt-suc 0) (sym (zero-mul den))

-- a float's own fraction keeps its value
own_value : (s : Bool) (m : ℕ) (e : ℤ) → Fitting m e → HasValue (round binary32 s (m * up e) (down e)) s (m * up e) (down e)
own_value s m (pos k) f =
    round_exact binary32 s (m * 2 ^ k) 1 m (k + 149) (zero-lt-suc 0) f.digits
    (rw split (mul-lt-mul_of_pos_right f.most (pow_pos 149)))
    (sym split ∙ sym (mul-one _))
  where
    split : m * 2 ^ (k + 149) ≡ m * 2 ^ k * 2 ^ 149
    split = ap (λ x. m * x) (pow-add 2 k 149) ∙ sym (mul_assoc m (2 ^ k) (2 ^ 149))
own_value s m (negsuc k) f =
    let j = 149 - suc k in
    let least : suc k ≤ 149 = le_of_suc-le-suc (lt_of_not-le (λ h. not-le_of_lt (pow-lt h) f.least)) in
    let sum : j + suc k ≡ 149 = omega arith in
    let whole : 2 ^ j * 2 ^ suc k ≡ 2 ^ 149 = sym (pow-add 2 j (suc k)) ∙ ap (λ x. 2 ^ x) sum in
    let top : 2 ^ 128 * 2 ^ suc k * 2 ^ j ≡ 2 ^ 277 =
    mul_assoc (2 ^ 128) (2 ^ suc k) (2 ^ j) ∙ ap (λ x. 2 ^ 128 * x) (mul_comm (2 ^ suc k) (2 ^ j) ∙ whole) in
    round_exact binary32 s (m * 1) (2 ^ suc k) m j (pow_pos (suc k)) f.digits
    (rw (mul-one m, top) at (mul-lt-mul_of_pos_right f.most (pow_pos j)))
    (ap (λ x. x * 2 ^ 149) (mul-one m) ∙ ap (λ x. m * x) (sym whole) ∙ sym (mul_assoc m (2 ^ j) (2 ^ suc k)))

-- a float that fits and has this value is written as the other
same_float : (s : Bool) (m : ℕ) (e : ℤ) (x : Float) → Fitting (suc m) e → T (fits binary32 x)
    → HasValue x s (suc m * up e) (down e) → x ≡ fin s (suc m) e
same_float s m e nan f t v = absurd v
same_float s m e (inf u) f t v = absurd v
same_float s m e (fin u zero g) f t v =
    absurd
    (lt_irrefl 0
    (rw (zero-mul (up g), zero-mul (down e)) at (rw (← v.1) at (mul-pos (mul-pos (zero-lt-suc m) (up_pos e)) (down_pos g)))))
same_float s m e (fin u (suc n) g) f t v =
    let r = one_way (suc n) (suc m) g e (fitting u n g t).odd f.odd v.1 in
    λ i. fin (v.0 i) (r.0 i) (r.1 i)

-- a zero has the exponent 0
zero_exponent : (s : Bool) (e : ℤ) → T (fits binary32 (fin s zero e)) → e ≡ pos 0
unfolding fits
zero_exponent s (pos zero) t = refl
zero_exponent s (pos (suc k)) t = absurd (even 1 (2 ^ k) refl (sym (eqb→eq _ _ t) ∙ mul-one _ ∙ pow-suc 2 k))
zero_exponent s (negsuc k) t = absurd (even 1 (2 ^ k) refl (sym (eqb→eq _ _ t) ∙ one-mul _ ∙ pow-suc 2 k))

pub round_own : (s : Bool) (m : ℕ) (e : ℤ) → T (fits binary32 (fin s m e))
    → round binary32 s (m * up e) (down e) ≡ fin s m e
round_own s zero e t =
    ap (λ x. round binary32 s x (down e)) (zero-mul (up e)) ∙ round_zero s (down e) (down_pos e)
    ∙ ap (fin s 0) (sym (zero_exponent s e t))
round_own s (suc m) e t =
    let f = fitting s m e t in same_float s m e _ f (round-fits binary32 s _ _) (own_value s (suc m) e f)
