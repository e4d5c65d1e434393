-- Laws of masks. What the machine's counts and bit operations give is the definitions', by computed tests over every mask.
use Prim.Native.Nat.{ℕ, zero, suc, ◌+◌, ◌-◌, ◌/◌, ◌%◌, ◌^◌, ◌<◌}
use mathlib.Core.Path.{◌≡◌, refl, ap, ◌∙◌}
use mathlib.Core.List.{List, [], ◌∷◌}
use mathlib.Core.Bool.{Bool, true, false, not, ◌&&◌, beq, cond}
use mathlib.Core.Logic.{◌⊎◌, inl, inr}
use native.Mathlib.Nat.{mod-lt, zero-lt-suc, eq-or-lt_of_le, le_of_suc-le-suc}
use native.Mathlib.Omega.{arith}
use lib.ListN.{length}
use lib.Dec.{eqb}
use lib.Bits.{bit_and, and_shr, and_mod, and_lt}
use lib.Count.{ones, count_trailing_zeros}
use borrow.Author.Tests.{eqb-true, eq-eqb, ne_eqb}
use Rattle.lbp16.specs.Answer.{accepted, refused}
use Rattle.lbp16.proofs.BoolLaws.{and_true, beq_true}
use Rattle.panel.specs.Masks.{channels, names, those, named, lowest, none, outside, fails, tally_of, started, reported}

-- a test at every number below n
all : (ℕ → Bool) → ℕ → Bool
all test zero = true
all test (suc n) = test n && all test n

all_hold : (test : ℕ → Bool) (n : ℕ) → all test n ≡ true → (m : ℕ) → m < n → test m ≡ true
unfolding all
all_hold test zero e m h = absurd (omega arith)
all_hold test (suc n) e m h = go (and_true (test n) (all test n) e) (eq-or-lt_of_le (le_of_suc-le-suc h)) (all_hold test n)
  where
    go : (test n ≡ true) × (all test n ≡ true) → (m ≡ n) ⊎ (m < n) → (all test n ≡ true → (i : ℕ) → i < n → test i ≡ true) → test m ≡ true
    go q (inl z) rest = rw z q.0
    go q (inr l) rest = rest q.1 m l

-- every mask: how many channels it names, the lowest, and whether it names any
every-count : all (λ m. eqb (ones m) (length (named m))) 256 ≡ true
unfolding all named channels names those ones
every-count = refl

every-lowest : all (λ m. eqb (count_trailing_zeros 8 m) (lowest (named m))) 256 ≡ true
unfolding all named channels names those lowest count_trailing_zeros
every-lowest = refl

every-none : all (λ m. beq (none (named m)) (eqb m 0)) 256 ≡ true
unfolding all named channels names those none
every-none = refl

module _ (mask : ℕ) (byte : mask < 256) where
  pub counted : ones mask ≡ length (named mask)
  counted = eqb-true _ _ (all_hold _ 256 every-count mask byte)

  pub lowest-named : count_trailing_zeros 8 mask ≡ lowest (named mask)
  lowest-named = eqb-true _ _ (all_hold _ 256 every-lowest mask byte)

  pub names-none : none (named mask) ≡ eqb mask 0
  names-none = beq_true _ _ (all_hold _ 256 every-none mask byte)

-- a mask's complement names a channel where the mask does not
flipped : ℕ → ℕ → Bool
flipped channel mask = beq (names (255 - mask) channel) (not (names mask channel))

every-flipped : all (λ c. all (flipped c) 256) 8 ≡ true
unfolding all flipped names
every-flipped = refl

names_not : (mask channel : ℕ) → mask < 256 → channel < 8 → names (255 - mask) channel ≡ not (names mask channel)
unfolding flipped
names_not mask channel byte h =
    beq_true _ _ (all_hold (flipped channel) 256 (all_hold (λ c. all (flipped c) 256) 8 every-flipped channel h) mask byte)

-- two masks both name a channel where their common bits do
bit_and_lem : (x y : ℕ) → x < 2 → y < 2 → eqb (bit_and x y) 1 ≡ eqb x 1 && eqb y 1
bit_and_lem zero y h k = refl
bit_and_lem (suc zero) zero h k = refl
bit_and_lem (suc zero) (suc zero) h k = refl
bit_and_lem (suc zero) (suc (suc y)) h k = absurd (omega arith)
bit_and_lem (suc (suc x)) y h k = absurd (omega arith)

names_and : (a b channel : ℕ) → names (bit_and a b) channel ≡ names a channel && names b channel
unfolding names
names_and a b channel =
    let x = a / 2 ^ channel in
    let y = b / 2 ^ channel in
    ap (λ n. eqb (n % 2) 1) (and_shr a b channel)
    ∙ ap (λ n. eqb n 1) (and_mod x y 1)
    ∙ bit_and_lem (x % 2) (y % 2) (mod-lt x (zero-lt-suc 1)) (mod-lt y (zero-lt-suc 1))

-- the k channels from c on
up_from : ℕ → ℕ → List ℕ
up_from zero c = []
up_from (suc k) c = c ∷ up_from k (suc c)

those-from : (p q : ℕ → Bool) (k c : ℕ) → ((i : ℕ) → i < c + k → p i ≡ q i) → those p (up_from k c) ≡ those q (up_from k c)
unfolding those up_from
those-from p q zero c h = refl
those-from p q (suc k) c h =
    rw (h c (omega arith), those-from p q k (suc c) (λ i l. h i (omega arith))) refl

those-same : (p q : ℕ → Bool) → ((i : ℕ) → i < 8 → p i ≡ q i) → those p channels ≡ those q channels
unfolding channels up_from
those-same p q h = those-from p q 8 0 h

pub tally-is : (asked failed : ℕ) → asked < 256 → failed < 256
    → record { asked = ones asked; failed = ones failed; lowest = count_trailing_zeros 8 failed } ≡ tally_of (named asked) (named failed)
unfolding tally_of
tally-is asked failed a b = rw (counted asked a, counted failed b, lowest-named failed b) refl

pub failed_named : (asked faults : ℕ) → named (bit_and asked faults) ≡ those (fails asked faults) channels
unfolding named fails
failed_named asked faults = those-same _ _ (λ i h. names_and asked faults i)

module _ (asked running : ℕ) (a : asked < 256) (b : running < 256) where
  outside-named : named (bit_and asked (255 - running)) ≡ those (outside asked running) channels
  unfolding named outside
  outside-named =
      those-same _ _ (λ i h. names_and asked (255 - running) i ∙ ap (λ t. names asked i && t) (names_not running i b h))

  none-outside : none (those (outside asked running) channels) ≡ eqb (bit_and asked (255 - running)) 0
  none-outside =
      rw (← outside-named) (names-none (bit_and asked (255 - running)) (and_lt 8 asked (255 - running) a (omega arith)))

  pub start-inside : bit_and asked (255 - running) ≡ 0 → started asked running ≡ accepted (asked ∷ [])
  unfolding started
  start-inside e = rw (none-outside, eq-eqb _ _ e) refl

  pub start_outside : (bit_and asked (255 - running) ≡ 0 → ⊥) → started asked running ≡ refused 43 0
  unfolding started
  start_outside e = rw (none-outside, ne_eqb _ _ e) refl

-- If a channel failed, the lowest failing one is among those asked and failed, and none below it is; else it is 8.
pub data Lowest (test : ℕ → Bool) : ℕ → Type 0 where
  some : {l : ℕ} → l < 8 → test l ≡ true → ((c : ℕ) → c < l → test c ≡ false) → Lowest test l
  nothing : ((c : ℕ) → c < 8 → test c ≡ false) → Lowest test 8

lowest-from : (test : ℕ → Bool) (k c : ℕ) → c + k ≡ 8 → ((i : ℕ) → i < c → test i ≡ false)
    → Lowest test (lowest (those test (up_from k c)))
unfolding those up_from lowest
lowest-from test zero c e h = Lowest.nothing (λ i l. h i (omega arith))
lowest-from test (suc k) c e h = go (test c) refl (lowest-from test k (suc c) (omega arith))
  where
    go : (b : Bool) → test c ≡ b
        → (((i : ℕ) → i < suc c → test i ≡ false) → Lowest test (lowest (those test (up_from k (suc c)))))
        → Lowest test (lowest (cond b (c ∷ those test (up_from k (suc c))) (those test (up_from k (suc c)))))
    go true q rest = Lowest.some {l = c} (omega arith) q h
    go false q rest = rest (λ i l. below i (eq-or-lt_of_le (le_of_suc-le-suc l)) q)
      where
        below : (i : ℕ) → (i ≡ c) ⊎ (i < c) → test c ≡ false → test i ≡ false
        below i (inl z) q = rw z q
        below i (inr l) q = h i l

pub lowest_failing : (asked faults : ℕ) → Lowest (fails asked faults) (reported asked faults).lowest
unfolding reported tally_of channels up_from
lowest_failing asked faults = lowest-from (fails asked faults) 8 0 refl (λ i l. absurd (omega arith))
