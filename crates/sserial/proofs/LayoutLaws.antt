-- Packing and unpacking the fields of one direction are inverse both ways; words and their number too.
use Prim.Native.Nat.{ℕ, zero, suc, ◌+◌, ◌*◌, ◌/◌, ◌%◌, ◌^◌, ◌≤◌, ◌<◌}
use mathlib.Core.Path.{◌≡◌, refl, sym, ap, ap₂, ◌∙◌}
use mathlib.Core.Bool.{true}
use mathlib.Core.List.{List, [], ◌∷◌}
use native.Mathlib.Omega.{arith}
use native.Mathlib.Nat.{mod-eq_of_lt, mod-lt, div-eq_of_lt, add-mul-mod_self_left, add-mul-div_left, mul_comm, mul-suc, mul-le-mul_left, suc-mul}
use lib.Pow.{pow_pos, pow-add, mod-pow-add, shr_lt}
use lib.ListN.{length}
use Rattle.lbp16.proofs.BoolLaws.{and_true}
use Rattle.sserial.specs.Table.{bits}
use Rattle.sserial.specs.Layout.{joined, words_of, value_of, bits_of, in_range, packed, unpacked, fitting}
use Rattle.sserial.specs.Inside.{Each, AllWide}
use Rattle.sserial.specs.declared.table.Field.{Field}
use Rattle.sserial.proofs.ValueLaws.{value-back, bits_back}

-- the low digits of a number, and the others
pub low_part : (w b n : ℕ) → b < 2 ^ w → (b + 2 ^ w * n) % 2 ^ w ≡ b
low_part w b n h = add-mul-mod_self_left b (2 ^ w) n ∙ mod-eq_of_lt h

pub high_part : (w b n : ℕ) → b < 2 ^ w → (b + 2 ^ w * n) / 2 ^ w ≡ n
high_part w b n h = add-mul-div_left b n (pow_pos w) ∙ ap (λ (x : ℕ). x + n) (div-eq_of_lt h) ∙ omega arith

pub below_both : (j k b n : ℕ) → b < 2 ^ j → n < 2 ^ k → b + 2 ^ j * n < 2 ^ (j + k)
below_both j k b n hb hn =
    let m : 2 ^ j * suc n ≤ 2 ^ j * 2 ^ k = mul-le-mul_left (2 ^ j) hn in
    let e : 2 ^ j * suc n ≡ 2 ^ j * n + 2 ^ j = mul-suc (2 ^ j) n in
    let p : 2 ^ (j + k) ≡ 2 ^ j * 2 ^ k = pow-add 2 j k in
    omega arith

-- the low digits of j + k are the low j and, above them, the next k
pub low-both : (j k n : ℕ) → n % 2 ^ (j + k) ≡ n % 2 ^ j + 2 ^ j * (n / 2 ^ j % 2 ^ k)
low-both j k n =
    let e : j + k ≡ k + j = omega arith in
    let m : n / 2 ^ j % 2 ^ k * 2 ^ j ≡ 2 ^ j * (n / 2 ^ j % 2 ^ k) = mul_comm (n / 2 ^ j % 2 ^ k) (2 ^ j) in
    rw (e, mod-pow-add n k j) (omega arith)

pub bits_below : (f : Field) (v : ℕ) → bits_of f v < 2 ^ f.width
unfolding bits_of
bits_below f v = mod-lt v (pow_pos f.width)

pub pack_back : (fs : List Field) (vs : List ℕ) → AllWide fs → Each (2 ^ 64) vs → fitting fs vs ≡ true
    → unpacked fs (packed fs vs) ≡ vs
unfolding unpacked packed fitting bits_of
pack_back [] [] w b h = refl
pack_back [] (v ∷ vs) w b h = let z : ◌≡◌ {A = ℕ} 0 1 = cc in absurd (omega arith)
pack_back (f ∷ fs) [] w b h = let z : ◌≡◌ {A = ℕ} 0 1 = cc in absurd (omega arith)
pack_back (f ∷ fs) (v ∷ vs) (AllWide.more w ws) (Each.more b bs) h =
    let q = and_true (in_range f v) (fitting fs vs) h in
    let r = bits_below f v in
    ap₂ (λ (x : ℕ) (xs : List ℕ). x ∷ xs)
    (ap (value_of f) (low_part f.width (bits_of f v) (packed fs vs) r) ∙ value-back f w v b q.0)
    (ap (unpacked fs) (high_part f.width (bits_of f v) (packed fs vs) r) ∙ pack_back fs vs ws bs q.1)

pub unpack_back : (fs : List Field) (n : ℕ) → AllWide fs → packed fs (unpacked fs n) ≡ n % 2 ^ bits fs
unfolding unpacked packed bits bits_of
unpack_back [] n w = omega arith
unpack_back (f ∷ fs) n (AllWide.more w ws) =
    rw ((bits_back f w (bits_of f n) (bits_below f n)).back, unpack_back fs (n / 2 ^ f.width) ws) (sym (low-both f.width (bits fs) n))

pub unpacked-fits : (fs : List Field) (n : ℕ) → AllWide fs → fitting fs (unpacked fs n) ≡ true
unfolding unpacked fitting
unpacked-fits [] n w = refl
unpacked-fits (f ∷ fs) n (AllWide.more w ws) =
    rw (bits_back f w (bits_of f n) (bits_below f n)).range (unpacked-fits fs (n / 2 ^ f.width) ws)

pub packed-below : (fs : List Field) (vs : List ℕ) → packed fs vs < 2 ^ bits fs
unfolding packed bits
packed-below [] vs = omega arith
packed-below (f ∷ fs) [] = pow_pos (f.width + bits fs)
packed-below (f ∷ fs) (v ∷ vs) = below_both f.width (bits fs) _ _ (bits_below f v) (packed-below fs vs)

pub words-length : (k n : ℕ) → length (words_of k n) ≡ k
unfolding words_of
words-length zero n = refl
words-length (suc k) n = ap suc (words-length k (n / 2 ^ 32))

pub joined_words : (k n : ℕ) → n < 2 ^ (k * 32) → joined (words_of k n) ≡ n
unfolding joined words_of
joined_words zero n h = omega arith
joined_words (suc k) n h =
    let e : suc k * 32 ≡ k * 32 + 32 = suc-mul k 32 in
    let s : n / 2 ^ 32 < 2 ^ (k * 32) = shr_lt (k * 32) 32 (rw e at h) in
    rw (joined_words k (n / 2 ^ 32) s) (omega arith)

pub words-joined : (ws : List ℕ) → Each (2 ^ 32) ws → words_of (length ws) (joined ws) ≡ ws
unfolding joined words_of
words-joined [] b = refl
words-joined (w ∷ ws) (Each.more b bs) =
    ap₂ (λ (x : ℕ) (xs : List ℕ). x ∷ xs) (low_part 32 w (joined ws) b)
    (ap (words_of (length ws)) (high_part 32 w (joined ws) b) ∙ words-joined ws bs)
