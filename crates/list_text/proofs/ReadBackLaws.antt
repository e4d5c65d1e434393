-- What was written is read back: a text's lines, a line's words, and the digits of a number.
use Prim.Native.Nat.{ℕ, zero, suc, ◌+◌, ◌*◌, ◌/◌, ◌%◌, ◌^◌, ◌≤◌, ◌<◌}
use mathlib.Core.Path.{◌≡◌, refl, sym, ap, ◌∙◌}
use mathlib.Core.List.{List, [], ◌∷◌, ◌++◌, append-nil}
use mathlib.Core.Bool.{Bool, true, false, ◌&&◌, cond}
use native.Mathlib.Omega.{arith}
use native.Mathlib.Nat.{mul-add, mul_assoc, mul_comm, one-le-pow, pow-succ', mod-eq_of_lt}
use lib.Arith.{mod-mul}
use lib.Dec.{eqb, ltb}
use lib.ListN.{length}
use lib.Seq.{take-length, append_snoc}
use borrow.Author.Tests.{eqb-true, eqb-false, ne_eqb, lt-ltb, le-ltb}
use Rattle.lbp16.specs.Space.{Space, registers, eeprom, status, information, absent, space_of as space, is_absent, row}
use Rattle.lbp16.proofs.BoolLaws.{and_true}
use Rattle.lbp16.proofs.CaseLaws.{space-cases}
use Rattle.text.specs.Number.{ascii, hex_digit, hexadecimal}
use Rattle.text.specs.Find.{bytes_before, capital, hex_value, same_bytes}
use Rattle.text.proofs.HexLaws.{hex_length}
use Rattle.cue_text.specs.Words.{is_blank, with_byte, lines_of, uncommented, closed, words_from, words_of}
use Rattle.std.proofs.Common.{Some}
use Rattle.cue_text.specs.Numbers.{all_digits, digits_from, digits_value, is_hex, number_of, up_to, address_of, value_of, space_of}
use Rattle.space_text.specs.SpaceText.{space_word}

-- bytes of a word: digits and letters
abbrev pub Plain : List ℕ → Type 0
Plain [] = Unit
Plain (c ∷ cs) = (48 ≤ c) × (c ≤ 122) × Plain cs

pub plain-append : (a b : List ℕ) → Plain a → Plain b → Plain (a ++ b)
plain-append [] b p q = q
plain-append (c ∷ a) b p q = (p.0, p.1, plain-append a b p.2 q)

-- bytes of a line without a comment
abbrev pub Inline : List ℕ → Type 0
Inline [] = Unit
Inline (c ∷ cs) = (c ≡ 10 → ⊥) × (c ≡ 35 → ⊥) × Inline cs

pub inline_append : (a b : List ℕ) → Inline a → Inline b → Inline (a ++ b)
inline_append [] b p q = q
inline_append (c ∷ a) b p q = (p.0, p.1, inline_append a b p.2 q)

pub plain_inline : (w : List ℕ) → Plain w → Inline w
plain_inline [] p = tt
plain_inline (c ∷ w) p = let h = p.0 in (λ e. omega arith, λ e. omega arith, plain_inline w p.2)

-- a line and its newline
pub line_then : (l rest : List ℕ) → Inline l → lines_of (l ++ 10 ∷ rest) ≡ l ∷ lines_of rest
unfolding lines_of with_byte
line_then [] rest p = refl
line_then (c ∷ l) rest p = rw (ne_eqb c 10 p.0, line_then l rest p.2) refl

no_comment : (l : List ℕ) → Inline l → bytes_before 35 l ≡ length l
unfolding bytes_before
no_comment [] p = refl
no_comment (c ∷ l) p = rw (ne_eqb c 35 p.1, no_comment l p.2) refl

pub line-words : (l : List ℕ) → Inline l → words_of l ≡ words_from [] l
unfolding words_of uncommented
line-words l p = rw (no_comment l p, take-length l) refl

-- a word up to the blank behind it, and at the line's end
blank : is_blank 32 ≡ true
unfolding is_blank
blank = refl

not_blank : (c : ℕ) → 48 ≤ c → is_blank c ≡ false
unfolding is_blank
not_blank c h = rw (ne_eqb c 32 (λ e. omega arith), ne_eqb c 9 (λ e. omega arith), ne_eqb c 13 (λ e. omega arith)) refl

word-from : (w cs rest : List ℕ) → Plain cs → words_from w (cs ++ 32 ∷ rest) ≡ closed (w ++ cs) (words_from [] rest)
unfolding words_from
word-from w [] rest p = rw (blank, append-nil) refl
word-from w (c ∷ cs) rest p =
    rw (not_blank c p.0)
    (word-from (w ++ (c ∷ [])) cs rest p.2 ∙ ap (λ (v : List ℕ). closed v (words_from [] rest)) (append_snoc w c cs))

last-from : (w cs : List ℕ) → Plain cs → words_from w cs ≡ closed (w ++ cs) []
unfolding words_from
last-from w [] p = rw append-nil refl
last-from w (c ∷ cs) p =
    rw (not_blank c p.0) (last-from (w ++ (c ∷ [])) cs p.2 ∙ ap (λ (v : List ℕ). closed v []) (append_snoc w c cs))

pub word_then : (w rest : List ℕ) → 1 ≤ length w → Plain w → words_from [] (w ++ 32 ∷ rest) ≡ w ∷ words_from [] rest
unfolding closed
word_then [] rest h p = absurd (omega arith)
word_then (c ∷ cs) rest h p = word-from [] (c ∷ cs) rest p

pub word-last : (w : List ℕ) → 1 ≤ length w → Plain w → words_from [] w ≡ w ∷ []
unfolding closed
word-last [] h p = absurd (omega arith)
word-last (c ∷ cs) h p = last-from [] (c ∷ cs) p

-- a test of all numbers below one
abbrev all_below : ℕ → (ℕ → Bool) → Bool
all_below zero f = true
all_below (suc n) f = f n && all_below n f

below_holds : (n : ℕ) (f : ℕ → Bool) → all_below n f ≡ true → (d : ℕ) → d < n → f d ≡ true
below_holds zero f e d h = absurd (omega arith)
below_holds (suc n) f e d h =
    let both = and_true (f n) (all_below n f) e in
    go (eqb d n) refl both.0 (below_holds n f both.1 d)
  where
    go : (b : Bool) → eqb d n ≡ b → f n ≡ true → (d < n → f d ≡ true) → f d ≡ true
    go true q last less = rw (eqb-true d n q) last
    go false q last less = let k = eqb-false d n q in less (omega arith)

pub hex_value_lem : (d : ℕ) → d < 16 → hex_value (hex_digit d) ≡ d
unfolding hex_value capital bytes_before hex_digit ascii
hex_value_lem d h = eqb-true _ _ (below_holds 16 (λ (n : ℕ). eqb (hex_value (hex_digit n)) n) refl d h)

sixteen : (k : ℕ) → 0 < 16 ^ k
sixteen k = one-le-pow k 16 (omega arith)

-- a number's last digits read behind a number n
digits-back : (k n v : ℕ) → digits_from 16 n (hexadecimal k v) ≡ 16 ^ k * n + v % 16 ^ k
unfolding digits_from hexadecimal
digits-back zero n v = omega arith
digits-back (suc k) n v =
    let p = 16 ^ k in
    let d = v / p % 16 in
    let e : hex_value (hex_digit d) ≡ d = hex_value_lem d (omega arith) in
    let low : v % (16 * p) ≡ d * p + v % p = mod-mul v {m = 16} {c = p} (omega arith) (sixteen k) in
    let a : p * (16 * n + d) ≡ p * (16 * n) + p * d = mul-add p (16 * n) d in
    let b : p * (16 * n) ≡ 16 * p * n = sym (mul_assoc p 16 n) ∙ ap (λ (x : ℕ). x * n) (mul_comm p 16) in
    let c : p * d ≡ d * p = mul_comm p d in
    ap (λ (x : ℕ). digits_from 16 (16 * n + x) (hexadecimal k v)) e ∙ digits-back k (16 * n + d) v ∙ rw (pow-succ', low) (omega arith)

all_digits_lem : (k v : ℕ) → all_digits 16 (hexadecimal k v) ≡ true
unfolding all_digits hexadecimal
all_digits_lem zero v = refl
all_digits_lem (suc k) v =
    let h : v / 16 ^ k % 16 < 16 = omega arith in
    rw (hex_value_lem _ h, lt-ltb _ 16 h) (all_digits_lem k v)

-- so many digits behind 0x
abbrev pub hex_of : ℕ → ℕ → List ℕ
hex_of k v = 48 ∷ 120 ∷ hexadecimal k v

digit-plain : (d : ℕ) → d < 16 → (48 ≤ hex_digit d) × (hex_digit d ≤ 122)
unfolding hex_digit
digit-plain d h = go (ltb d 10)
  where
    go : (b : Bool) → (48 ≤ cond b (48 + d) (55 + d)) × (cond b (48 + d) (55 + d) ≤ 122)
    go true = (omega arith, omega arith)
    go false = (omega arith, omega arith)

pub hex_plain : (k v : ℕ) → Plain (hexadecimal k v)
unfolding hexadecimal
hex_plain zero v = tt
hex_plain (suc k) v = let d = digit-plain (v / 16 ^ k % 16) (omega arith) in (d.0, d.1, hex_plain k v)

number-back : (k v : ℕ) → 0 < k → v < 16 ^ k → number_of (hex_of k v) ≡ Some v
unfolding number_of is_hex digits_value same_bytes ascii
number-back k v some h =
    let e : 16 ^ k * 0 + v % 16 ^ k ≡ v = rw (mod-eq_of_lt h) (omega arith) in
    rw (all_digits_lem k v, hex_length k v, ne_eqb k 0 (λ z. omega arith), digits-back k 0 v, e) refl

pub address-back : (a : ℕ) → a < 65536 → address_of (hex_of 4 a) ≡ Some a
unfolding address_of up_to
address-back a h = rw (number-back 4 a (omega arith) (omega arith), le-ltb 65535 a (omega arith)) refl

-- a Some with as many digits as its element
pub value-back : (s : Space) (v : ℕ) → is_absent s ≡ false → v < 256 ^ (row s).element → value_of (hex_of (2 * (row s).element) v) ≡ Some v
unfolding value_of up_to row is_absent
value-back registers v p h = rw (number-back 8 v (omega arith) (omega arith), le-ltb 4294967295 v (omega arith)) refl
value-back eeprom v p h = rw (number-back 4 v (omega arith) (omega arith), le-ltb 4294967295 v (omega arith)) refl
value-back status v p h = rw (number-back 4 v (omega arith) (omega arith), le-ltb 4294967295 v (omega arith)) refl
value-back information v p h = rw (number-back 4 v (omega arith) (omega arith), le-ltb 4294967295 v (omega arith)) refl
value-back absent v p h = let z : ◌≡◌ {A = ℕ} 0 1 = cc in absurd (omega arith)

pub space-back : (n : ℕ) → is_absent (space n) ≡ false → space_of (space_word (space n)) ≡ Some n
unfolding space_of space_word same_bytes ascii is_absent
space-back n =
    space-cases n (λ m s. is_absent s ≡ false → space_of (space_word s) ≡ Some m) (λ h. refl) (λ h. refl) (λ h. refl) (λ h. refl)
    (λ a b c d h. let z : ◌≡◌ {A = ℕ} 0 1 = cc in absurd (omega arith))

pub space-plain : (s : Space) → Plain (space_word s)
unfolding space_word ascii
space-plain registers = omega arith
space-plain eeprom = omega arith
space-plain status = omega arith
space-plain information = omega arith
space-plain absent = tt

pub space-some : (s : Space) → is_absent s ≡ false → 1 ≤ length (space_word s)
unfolding space_word ascii is_absent
space-some registers h = omega arith
space-some eeprom h = omega arith
space-some status h = omega arith
space-some information h = omega arith
space-some absent h = let z : ◌≡◌ {A = ℕ} 0 1 = cc in absurd (omega arith)

pub hex_some : (k v : ℕ) → 1 ≤ length (hex_of k v)
hex_some k v = omega arith

pub hex_word_lem : (k v : ℕ) → Plain (hex_of k v)
hex_word_lem k v = (omega arith, omega arith, (omega arith, omega arith, hex_plain k v))
