-- Bits of words that are read as one number. Widths and places are variables throughout.
use Prim.Native.Nat.{ℕ, zero, suc, ◌+◌, ◌-◌, ◌*◌, ◌/◌, ◌%◌, ◌^◌, ◌≤◌, ◌<◌}
use mathlib.Core.Path.{◌≡◌, refl, sym, ap, ◌∙◌}
use mathlib.Core.List.{List, [], ◌∷◌}
use native.Mathlib.Omega.{arith}
use native.Mathlib.Nat.{mod-lt, mul_comm, mul_assoc, zero-mul, add-mul, suc-mul, add-mul-mod_self_left, add-mul-div_left}
use lib.Pow.{pow_pos, pow-add, pow_mono, shr_lt, shr-shr, split}
use lib.ListN.{length, get_or, set}
use Rattle.sserial.specs.Layout.{joined}
use Rattle.sserial.specs.Inside.{Each}
use Rattle.sserial.proofs.LayoutLaws.{low-both, below_both, high_part}

-- the word that holds bit `at`, with the words below it
next_word_lem : (k p : ℕ) → 2 ^ (suc k * 32 + p) ≡ 2 ^ (k * 32 + p) * 2 ^ 32
next_word_lem k p =
    let e : suc k * 32 + p ≡ k * 32 + p + 32 = rw suc-mul (omega arith) in
    rw e (pow-add 2 (k * 32 + p) 32)

-- Where the words hold nothing from bit p of word k on, word k is below 2 ^ p.
word_below : (ws : List ℕ) (k p : ℕ) → joined ws < 2 ^ (k * 32 + p) → get_or ws k 0 < 2 ^ p
unfolding joined
word_below [] k p h = pow_pos p
word_below (w ∷ ws) zero p h = let e : 0 * 32 + p ≡ p = omega arith in let d = rw e at h in omega arith
word_below (w ∷ ws) (suc k) p h = let d = next_word_lem k p in word_below ws k p (omega arith)

added_word : (ws : List ℕ) (k c : ℕ) → k < length ws → joined (set ws k (get_or ws k 0 + c)) ≡ joined ws + c * 2 ^ (k * 32)
unfolding joined
added_word [] k c h = absurd (omega arith)
added_word (w ∷ ws) zero c h = omega arith
added_word (w ∷ ws) (suc k) c h =
    let d : c * 2 ^ (suc k * 32) ≡ c * 2 ^ (k * 32) * 2 ^ 32 = rw (suc-mul, pow-add 2 (k * 32) 32) (sym (mul_assoc c (2 ^ (k * 32)) (2 ^ 32))) in
    rw (added_word ws k c (omega arith)) (omega arith)

word-bits : (ws : List ℕ) (k p n : ℕ) → Each (2 ^ 32) ws → k < length ws → p + n ≤ 32
    → joined ws / 2 ^ (k * 32 + p) % 2 ^ n ≡ get_or ws k 0 / 2 ^ p % 2 ^ n
unfolding joined
word-bits [] k p n b h l = absurd (omega arith)
word-bits (w ∷ ws) zero p n b h l =
    let e : 0 * 32 + p ≡ p = omega arith in
    let q : ℕ = 32 - p - n in
    let s : p + (n + q) ≡ 32 = omega arith in
    let d : 2 ^ 32 * joined ws ≡ 2 ^ p * (2 ^ n * (2 ^ q * joined ws)) = parts p n q s in
    rw (e, d, add-mul-div_left w (2 ^ n * (2 ^ q * joined ws)) (pow_pos p)) (add-mul-mod_self_left (w / 2 ^ p) (2 ^ n) (2 ^ q * joined ws))
  where
    parts : (p n q : ℕ) → p + (n + q) ≡ 32 → 2 ^ 32 * joined ws ≡ 2 ^ p * (2 ^ n * (2 ^ q * joined ws))
    parts p n q s =
        let t : 2 ^ 32 ≡ 2 ^ p * (2 ^ n * 2 ^ q) = ap (λ (x : ℕ). 2 ^ x) (sym s) ∙ pow-add 2 p (n + q) ∙ ap (λ (x : ℕ). 2 ^ p * x) (pow-add 2 n q) in
        ap (λ (x : ℕ). x * joined ws) t ∙ (rw (mul_assoc, mul_assoc) refl)
word-bits (w ∷ ws) (suc k) p n (Each.more b bs) h l =
    let e : suc k * 32 + p ≡ 32 + (k * 32 + p) = rw suc-mul (omega arith) in
    let d : (w + 2 ^ 32 * joined ws) / 2 ^ (32 + (k * 32 + p)) ≡ joined ws / 2 ^ (k * 32 + p) =
    sym (shr-shr _ 32 (k * 32 + p)) ∙ ap (λ (x : ℕ). x / 2 ^ (k * 32 + p)) (high_part 32 w (joined ws) b) in
    rw (e, d) (word-bits ws k p n bs (omega arith) l)

-- a bit's place as its word and the place there
module _ (at : ℕ) where
  place : at / 32 * 32 + at % 32 ≡ at
  place = omega arith

  module _ (ws : List ℕ) (n chunk : ℕ) (here : at / 32 < length ws) (fits : at % 32 + n ≤ 32) (small : chunk < 2 ^ n) (free : joined ws < 2 ^ at) where
    pub word_fits : get_or ws (at / 32) 0 + chunk * 2 ^ (at % 32) < 2 ^ 32
    word_fits =
        let b : get_or ws (at / 32) 0 < 2 ^ (at % 32) = word_below ws (at / 32) (at % 32) (rw place free) in
        let s : get_or ws (at / 32) 0 + 2 ^ (at % 32) * chunk < 2 ^ (at % 32 + n) = below_both (at % 32) n _ chunk b small in
        let m : 2 ^ (at % 32 + n) ≤ 2 ^ 32 = pow_mono fits in
        rw (mul_comm chunk (2 ^ (at % 32))) (omega arith)

    pub chunk_put : joined (set ws (at / 32) (get_or ws (at / 32) 0 + chunk * 2 ^ (at % 32))) ≡ joined ws + chunk * 2 ^ at
    chunk_put =
        let e : chunk * 2 ^ (at % 32) * 2 ^ (at / 32 * 32) ≡ chunk * 2 ^ at = shifted in
        rw (added_word ws (at / 32) (chunk * 2 ^ (at % 32)) here, e) refl
      where
        shifted : chunk * 2 ^ (at % 32) * 2 ^ (at / 32 * 32) ≡ chunk * 2 ^ at
        shifted =
            let s : at % 32 + at / 32 * 32 ≡ at = omega arith in
            mul_assoc chunk (2 ^ (at % 32)) (2 ^ (at / 32 * 32))
            ∙ ap (λ (x : ℕ). chunk * x) (sym (pow-add 2 (at % 32) (at / 32 * 32)) ∙ ap (λ (x : ℕ). 2 ^ x) s)

  pub chunk_got : (ws : List ℕ) (n : ℕ) → Each (2 ^ 32) ws → at / 32 < length ws → at % 32 + n ≤ 32
      → get_or ws (at / 32) 0 / 2 ^ (at % 32) % 2 ^ n ≡ joined ws / 2 ^ at % 2 ^ n
  chunk_got ws n b here fits = sym (rw place at (word-bits ws (at / 32) (at % 32) n b here fits))

pub each_below : (b : ℕ) (ws : List ℕ) → ((i : ℕ) → i < length ws → get_or ws i 0 < b) → Each b ws
each_below b [] h = Each.none
each_below b (w ∷ ws) h = Each.more (h 0 (omega arith)) (each_below b ws (λ i l. h (suc i) (omega arith)))

pub each_set : (b : ℕ) (ws : List ℕ) (k v : ℕ) → Each b ws → v < b → Each b (set ws k v)
each_set b [] k v e h = Each.none
each_set b (w ∷ ws) zero v (Each.more l e) h = Each.more h e
each_set b (w ∷ ws) (suc k) v (Each.more l e) h = Each.more l (each_set b ws k v e h)

-- a value's bits put in so far: `rest` are the `left` bits still to come, from bit `at` on
pub record Putting (before : List ℕ) (low width value : ℕ) (out : List ℕ) (at left rest : ℕ) : Type 0 where
  pub sum : joined out + rest * 2 ^ at ≡ joined before + value * 2 ^ low
  pub free : joined out < 2 ^ at
  pub small : rest < 2 ^ left
  pub end : at + left ≡ low + width
  pub each : Each (2 ^ 32) out
  pub three : length out ≡ 3

module _ {before out : List ℕ} {low width value at left rest : ℕ} (h : Putting before low width value out at left rest) where
  pub put-more : (n p : ℕ) (next : List ℕ) → n ≤ left → p ≡ 2 ^ n → joined next ≡ joined out + rest % p * 2 ^ at → Each (2 ^ 32) next
      → length next ≡ 3 → Putting before low width value next (at + n) (left - n) (rest / p)
  put-more n p next l e s b t =
      record {
        sum = total;
        free = rw s (rw (mul_comm (rest % p) (2 ^ at)) (below_both at n (joined out) (rest % p) h.free (rw e (mod-lt rest (pow_pos n)))));
        small = rw e (shr_lt (left - n) n (rw (let k : left - n + n ≡ left = omega arith in k) h.small));
        end = let k = h.end in omega arith;
        each = b;
        three = t;
      }
    where
      whole : rest / 2 ^ n * 2 ^ n * 2 ^ at + rest % 2 ^ n * 2 ^ at ≡ rest * 2 ^ at
      whole = sym (add-mul (rest / 2 ^ n * 2 ^ n) (rest % 2 ^ n) (2 ^ at)) ∙ ap (λ (x : ℕ). x * 2 ^ at) (split rest n)

      above : rest / 2 ^ n * 2 ^ (at + n) ≡ rest / 2 ^ n * 2 ^ n * 2 ^ at
      above =
          let k : at + n ≡ n + at = omega arith in
          ap (λ (x : ℕ). rest / 2 ^ n * x) (ap (λ (x : ℕ). 2 ^ x) k ∙ pow-add 2 n at) ∙ sym (mul_assoc (rest / 2 ^ n) (2 ^ n) (2 ^ at))

      total : joined next + rest / p * 2 ^ (at + n) ≡ joined before + value * 2 ^ low
      total = let k = h.sum in let w = whole in let a = above in rw (s, e) (omega arith)

  pub put-done : left ≤ 0 → joined out ≡ joined before + value * 2 ^ low
  put-done z =
      let k : left ≡ 0 = omega arith in
      let r : rest < 2 ^ 0 = rw k at h.small in
      let n : rest ≡ 0 = omega arith in
      let m : rest * 2 ^ at ≡ 0 = rw n (zero-mul (2 ^ at)) in
      let s = h.sum in
      omega arith

-- a field's bits read so far
module _ (ws : List ℕ) (low done n bits chunk p : ℕ) (e : bits ≡ joined ws / 2 ^ low % 2 ^ done)
    (k : chunk ≡ joined ws / 2 ^ (low + done) % 2 ^ n) (q : p ≡ 2 ^ done) where
  pub got_more : bits + chunk * p ≡ joined ws / 2 ^ low % 2 ^ (done + n)
  got_more =
      let d : joined ws / 2 ^ low / 2 ^ done % 2 ^ n ≡ chunk = ap (λ (x : ℕ). x % 2 ^ n) (shr-shr (joined ws) low done) ∙ sym k in
      rw (low-both done n (joined ws / 2 ^ low), d, ← e, q) (ap (λ (x : ℕ). bits + x) (mul_comm chunk (2 ^ done)))

  pub got_fits : bits + chunk * p < 2 ^ (done + n)
  got_fits = rw got_more (mod-lt (joined ws / 2 ^ low) (pow_pos (done + n)))
