-- A state whose bytes are those that a call writes: with one byte more in place.
use Prim.Native.Nat.{ℕ, zero, suc, ◌+◌, ◌*◌, ◌/◌, ◌%◌, ◌^◌, ◌≤◌, ◌<◌}
use mathlib.Core.Path.{◌≡◌, refl, sym, ap, ◌∙◌}
use mathlib.Core.List.{List, [], ◌∷◌, ◌++◌, append_assoc}
use native.Mathlib.Omega.{arith}
use native.Mathlib.Nat.{lt-mul-div-succ}
use lib.Pow.{pow-add, pow_pos}
use lib.ListN.{length, take, drop, get_or, set, length-append, length-take, length-drop, take-append-drop, get_or-eq_default, get_or-append}
use lib.Seq.{get_or-append-add, set-append_left}
use borrow.Author.Tests.{ne_eqb}
use Rattle.lbp16.proofs.WordLaws.{bit-written}
use Rattle.packet.specs.Bytes.{number, bytes_of}
use Rattle.parts.specs.Taking.{State}
use Rattle.parts.specs.State.{Held, pair_at, packer_at, padded, number_bytes, bytes_of_packer, state_of, bytes_of_state}
use Rattle.parts.proofs.StateLaws.{padded-is, padded_self, length-padded, standing-again}

-- bytes that are 0 behind some
number_zero : (l : List ℕ) → number l ≡ 0 → (i : ℕ) → get_or l i 0 ≡ 0
unfolding number
number_zero [] e i = refl
number_zero (a ∷ l) e zero = omega arith
number_zero (a ∷ l) e (suc i) = number_zero l (omega arith) i

behind-alike : (n : ℕ) (l : List ℕ) → number (drop n l) ≡ 0 → (i : ℕ) → get_or (take n l) i 0 ≡ get_or l i 0
behind-alike zero l e i = sym (number_zero l e i)
behind-alike (suc n) [] e i = refl
behind-alike (suc n) (a ∷ l) e zero = refl
behind-alike (suc n) (a ∷ l) e (suc i) = behind-alike n l e i

padded-alike : (n i : ℕ) (l m : List ℕ) → ((j : ℕ) → get_or l j 0 ≡ get_or m j 0) → padded n i l ≡ padded n i m
unfolding padded
padded-alike zero i l m e = refl
padded-alike (suc n) i l m e = rw (e i, padded-alike n (suc i) l m e) refl

padded-behind : (n at : ℕ) (l : List ℕ) → length l ≡ n → number (drop at l) ≡ 0 → padded n 0 (take at l) ≡ l
padded-behind n at l h e = padded-alike n 0 (take at l) l (behind-alike at l e) ∙ padded_self n l h

-- a number below a power of 256 has no bytes from there on
pub number-below : (k : ℕ) (l : List ℕ) → number l < 2 ^ (8 * k) → number (drop k l) ≡ 0
unfolding number
number-below zero l h = omega arith
number-below (suc k) [] h = refl
number-below (suc k) (a ∷ l) h =
    let q : 8 * suc k ≡ 8 * k + 8 = omega arith in
    let p : 2 ^ (8 * suc k) ≡ 2 ^ (8 * k) * 256 = rw q (pow-add 2 (8 * k) 8) in
    number-below k l (omega arith)

pub shifted-below : (n k : ℕ) → n / 2 ^ k ≡ 0 → n < 2 ^ k
shifted-below n k e =
    let h = lt-mul-div-succ n (pow_pos k) in
    omega (arith, rw e at h)

-- one byte more behind a list's end
set-padded : (n i j : ℕ) (c : List ℕ) (b : ℕ) → i + j ≡ length c → j < n → set (padded n i c) j b ≡ padded n i (c ++ (b ∷ []))
unfolding padded
set-padded zero i j c b e h = absurd (omega arith)
set-padded (suc n) i zero c b e h =
    let l : i ≡ length c + 0 = omega arith in
    let v : get_or (c ++ (b ∷ [])) i 0 ≡ b = rw l (get_or-append-add c (b ∷ []) 0 0) in
    rw v (ap (λ (l : List ℕ). b ∷ l) (padded-past n (suc i) (omega arith)))
  where
    padded-past : (n i : ℕ) → length c < i → padded n i c ≡ padded n i (c ++ (b ∷ []))
    padded-past zero i h = refl
    padded-past (suc n) i h =
        let x : get_or c i 0 ≡ 0 = get_or-eq_default c 0 {n = i} (omega arith) in
        let y : get_or (c ++ (b ∷ [])) i 0 ≡ 0 =
        get_or-eq_default (c ++ (b ∷ [])) 0 {n = i} (rw length-append (omega arith)) in
        rw (x, y, padded-past n (suc i) (omega arith)) refl
set-padded (suc n) i (suc j) c b e h =
    let x : get_or (c ++ (b ∷ [])) i 0 ≡ get_or c i 0 = get_or-append c (b ∷ []) 0 i (omega arith) in
    rw (x, set-padded n (suc i) j c b (omega arith) (omega arith)) refl

set_front : (a n : ℕ) (p q r t : List ℕ) (i b m : ℕ) → i < length p
    → set (set (a ∷ n ∷ (p ++ q ++ r ++ t)) (2 + i) b) 1 m ≡ a ∷ m ∷ (set p i b ++ q ++ r ++ t)
set_front a n p q r t i b m h =
    let e : 2 + i ≡ suc (suc i) = omega arith in
    rw e (simp append_assoc (rw (set-append_left p (q ++ (r ++ t)) i b h) refl))

abbrev pub longer : State Held → ℕ → State Held
longer t b =
    record { standing = t.standing; index = t.index; collected = t.collected ++ (b ∷ []); packet = t.packet }

pub bytes-longer : (t : State Held) (b : ℕ) → length t.collected < 10
    → bytes_of_state (longer t b) ≡ set (set (bytes_of_state t) (2 + length t.collected) b) 1 (length t.collected + 1)
unfolding bytes_of_state
bytes-longer t b h =
    let c = t.collected in
    let n : length (c ++ (b ∷ [])) ≡ length c + 1 = rw length-append refl in
    let p = set-padded 10 0 (length c) c b (omega arith) h in
    rw (n, ← p) (sym (set_front _ _ (padded 10 0 c) _ _ _ (length c) b _ (rw length-padded h)))

-- the bytes of a state that a call wrote
module _ (s : List ℕ) (long : length s ≡ 1504) (byte : (i : ℕ) → get_or s i 0 < 256) where
  pair_is : (i : ℕ) → i + 2 ≤ 1504 → pair_at s i ≡ get_or s i 0 + 256 * get_or s (suc i) 0
  unfolding pair_at number padded
  pair_is i h = rw (padded-is 2 i s (omega arith)) (omega arith)

  pair-bytes : (i : ℕ) → i + 2 ≤ 1504 → bytes_of 2 (pair_at s i) ≡ padded 2 i s
  unfolding bytes_of padded
  pair-bytes i h =
      let e = pair_is i h in
      let x : pair_at s i % 256 ≡ get_or s i 0 = omega (arith, byte i) in
      let d : pair_at s i / 256 ≡ get_or s (suc i) 0 = omega (arith, byte i) in
      let y : pair_at s i / 256 % 256 ≡ get_or s (suc i) 0 = rw d (omega (arith, byte (suc i))) in
      rw (x, y) refl

  index-bytes : bytes_of 4 (pair_at s 12 + 65536 * pair_at s 14) ≡ padded 4 12 s
  unfolding bytes_of padded
  index-bytes =
      let n = pair_at s 12 + 65536 * pair_at s 14 in
      let low = pair_is 12 (omega arith) in
      let high = pair_is 14 (omega arith) in
      let d : n / 256 ≡ get_or s 13 0 + 256 * pair_at s 14 = omega (arith, byte 12) in
      let e : n / 256 / 256 ≡ pair_at s 14 = rw d (omega (arith, byte 13)) in
      let f : n / 256 / 256 / 256 ≡ get_or s 15 0 = rw e (omega (arith, byte 14)) in
      let w : n % 256 ≡ get_or s 12 0 = omega (arith, byte 12) in
      let x : n / 256 % 256 ≡ get_or s 13 0 = rw d (omega (arith, byte 13)) in
      let y : n / 256 / 256 % 256 ≡ get_or s 14 0 = rw e (omega (arith, byte 14)) in
      let z : n / 256 / 256 / 256 % 256 ≡ get_or s 15 0 = rw f (omega (arith, byte 15)) in
      rw (w, x, y, z) refl

  packer-bytes : (pair_at s 22 ≡ 0 → ⊥) → get_or s 16 0 ≤ 1 → get_or s 21 0 ≤ 1 → bytes_of_packer (packer_at s) ≡ padded 12 16 s
  unfolding bytes_of_packer number_bytes packer_at padded
  packer-bytes z w u =
      rw (
        ne_eqb (pair_at s 22) 0 z,
        bit-written (get_or s 16 0) w,
        bit-written (get_or s 21 0) u,
        pair-bytes 18 (omega arith),
        pair-bytes 22 (omega arith),
        pair-bytes 24 (omega arith),
        pair-bytes 26 (omega arith),
      )
      refl

  module _ (z : pair_at s 22 ≡ 0 → ⊥) (w : get_or s 16 0 ≤ 1) (u : get_or s 21 0 ≤ 1) (f : get_or s 1 0 ≤ 10)
      (e : number (drop (get_or s 1 0) (take 10 (drop 2 s))) ≡ 0) where
    pub collected-length : length (take (get_or s 1 0) (take 10 (drop 2 s))) ≡ get_or s 1 0
    collected-length = simp (length-take, length-drop, long) (omega arith)

    state-parts : bytes_of_state (state_of s)
        ≡ (get_or s 0 0 ∷ get_or s 1 0 ∷ padded 10 2 s) ++ padded 4 12 s ++ padded 12 16 s ++ drop 28 s
    unfolding bytes_of_state state_of
    state-parts =
        let l : length (take 10 (drop 2 s)) ≡ 10 = rw (length-take, length-drop, long) refl in
        let b = padded-behind 10 (get_or s 1 0) (take 10 (drop 2 s)) l e ∙ padded-is 10 2 s (omega arith) in
        rw (standing-again, collected-length, b, index-bytes, packer-bytes z w u) refl

    -- the state's bytes are those that mean it
    pub state-again : bytes_of_state (state_of s) ≡ s
    unfolding padded
    state-again = state-parts ∙ rw (padded-is 28 0 s (omega arith)) at (take-append-drop 28 s)
