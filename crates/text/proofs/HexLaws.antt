-- Laws of hexadecimal digits.
use Prim.Native.Nat.{ℕ, zero, suc, ◌+◌, ◌-◌, ◌*◌, ◌/◌, ◌%◌, ◌^◌, ◌≤◌, ◌<◌}
use mathlib.Core.Path.{◌≡◌, refl}
use mathlib.Core.List.{List, [], ◌∷◌}
use native.Mathlib.Omega.{arith}
use native.Mathlib.Nat.{pow-suc, div-eq_of_lt}
use native.Mathlib.Numerals.{add-one, sub-one}
use lib.ListN.{length, get_or, drop}
use lib.Seq.{drop-cons}
use lib.Pow.{pow_mono}
use Rattle.text.specs.Number.{ascii, hex_digit, hexadecimal, bytes_of_hex}
use Rattle.text.specs.Room.{filled, put_at}
use Rattle.text.proofs.RoomLaws.{put_rest}

pub hex_length : (k n : ℕ) → length (hexadecimal k n) ≡ k
unfolding hexadecimal
hex_length zero n = refl
hex_length (suc k) n = let e = hex_length k n in omega arith

pub bytes-length : (bs : List ℕ) → length (bytes_of_hex bs) ≡ 3 * length bs
unfolding bytes_of_hex ascii hexadecimal
bytes-length [] = refl
bytes-length (b ∷ bs) = let e = bytes-length bs in omega arith

-- a digit by a shift of the bits, and past the last of 64 bits
sixteen : (k : ℕ) → 2 ^ (4 * k) ≡ 16 ^ k
sixteen zero = refl
sixteen (suc k) =
    let e : 4 * suc k ≡ suc (suc (suc (suc (4 * k)))) = omega arith in
    rw (e, pow-suc, pow-suc, pow-suc, pow-suc, sixteen k, pow-suc) (omega arith)

pub shifted-digit : (n k : ℕ) → n / 2 ^ (4 * k) % 16 ≡ n / 16 ^ k % 16
shifted-digit n k = rw (sixteen k) refl

pub no_digit : (n k : ℕ) → n < 2 ^ 64 → 15 < k → 0 ≡ n / 16 ^ k % 16
no_digit n k h l =
    let e : 2 ^ 64 ≤ 2 ^ (4 * k) = pow_mono {i = 64} {j = 4 * k} (omega arith) in
    let s = sixteen k in
    let f : n < 16 ^ k = omega arith in
    let z : n / 16 ^ k ≡ 0 = div-eq_of_lt f in
    rw z refl

-- a turn of the loop over a number's digits
pub hex_put : (n k at : ℕ) (room : List ℕ) {d r : ℕ} {room₁ : List ℕ} → 0 < k → d ≡ n / 16 ^ (k - 1) % 16
    → filled r room₁ ≡ put_at (hex_digit d ∷ []) at room
    → put_at (hexadecimal (k - 1) n) r room₁ ≡ put_at (hexadecimal k n) at room
unfolding hexadecimal
hex_put n zero at room h e f = absurd (omega arith)
hex_put n (suc k) at room {d} h e f = rw sub-one (rw (← (rw sub-one at e)) (put_rest (hex_digit d ∷ []) (hexadecimal k n) at room f))

-- a byte's two digits behind a space, and a turn of the loop over bytes
pub byte_put : (b at : ℕ) (room : List ℕ) {x y r : ℕ} {room₁ : List ℕ} → b < 256 → x ≡ hex_digit (b / 16) → y ≡ hex_digit (b % 16)
    → filled r room₁ ≡ put_at (32 ∷ x ∷ y ∷ []) at room → filled r room₁ ≡ put_at (bytes_of_hex (b ∷ [])) at room
unfolding bytes_of_hex hexadecimal ascii
byte_put b at room h e f p =
    let high : b / 16 ^ 1 % 16 ≡ b / 16 = omega arith in
    let low : b / 16 ^ 0 % 16 ≡ b % 16 = omega arith in
    rw (high, low, ← e, ← f) p

pub bytes-put : (s : List ℕ) (i at : ℕ) (room : List ℕ) {r : ℕ} {room₁ : List ℕ} → i < length s
    → filled r room₁ ≡ put_at (bytes_of_hex (get_or s i 0 ∷ [])) at room
    → put_at (bytes_of_hex (drop (i + 1) s)) r room₁ ≡ put_at (bytes_of_hex (drop i s)) at room
unfolding bytes_of_hex hexadecimal ascii
bytes-put s i at room h f = rw (drop-cons s i 0 h, add-one) (put_rest (bytes_of_hex (get_or s i 0 ∷ [])) (bytes_of_hex (drop (suc i) s)) at room f)
