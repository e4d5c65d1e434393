-- Laws of one element of any width: the number that its bytes hold, and the bytes that a number is stored in.
use Prim.Native.Nat.{ℕ, zero, suc, ◌+◌, ◌*◌, ◌/◌, ◌%◌, ◌≤◌, ◌<◌}
use mathlib.Core.Path.{◌≡◌, refl, sym, ap, ◌∙◌}
use mathlib.Core.List.{List, [], ◌∷◌}
use native.Mathlib.Omega.{arith}
use native.Mathlib.Nat.{add-suc, div-div-eq-div-mul}
use native.Mathlib.Numerals.{add-one}
use lib.ListN.{length, take, drop, get_or, set, length-drop}
use lib.Seq.{sets, length-take-le, get_or-take, get_or-drop}
use borrow.Author.Tests.{ne_eqb}
use Rattle.card.specs.Inside.{IsWidth}
use Rattle.packet.specs.Bytes.{number, bytes_of}

-- every byte of the list is below 256
abbrev pub Octets : List ℕ → Type 0
Octets l = (i : ℕ) → i < length l → get_or l i 0 < 256

-- the bytes of the number that bytes hold are those bytes
pub bytes-of_number : (l : List ℕ) → Octets l → bytes_of (length l) (number l) ≡ l
unfolding bytes_of number
bytes-of_number [] h = refl
bytes-of_number (b ∷ bs) h =
    let k : b < 256 = h 0 (omega arith) in
    let low : (b + 256 * number bs) % 256 ≡ b = omega arith in
    let high : (b + 256 * number bs) / 256 ≡ number bs = omega arith in
    rw (low, high, bytes-of_number bs (λ i l. h (suc i) (omega arith)))

-- w bytes of a list, from `at` on
module _ (w : ℕ) (s : List ℕ) (at : ℕ) (h : at + w ≤ length s) where
  pub length_part : length (take w (drop at s)) ≡ w
  length_part = length-take-le w (drop at s) (rw length-drop (omega arith))

  pub part_octets : Octets s → Octets (take w (drop at s))
  part_octets o i l =
      let k : i < w = rw length_part at l in
      rw (get_or-take w (drop at s) i 0 k, get_or-drop) (o (at + i) (omega arith))

  -- Bytes fetched as one number are stored as they were.
  pub bytes_fetched : Octets s → bytes_of w (number (take w (drop at s))) ≡ take w (drop at s)
  bytes_fetched o =
      ap (λ (n : ℕ). bytes_of n (number (take w (drop at s)))) (sym length_part)
      ∙ bytes-of_number (take w (drop at s)) (part_octets o)

-- The bytes of a number stored one after the other: w of them from place `at + k` on, those below p being stored.
abbrev pub stored_on : ℕ → List ℕ → ℕ → ℕ → ℕ → ℕ → List ℕ
stored_on zero d at k p v = d
stored_on (suc w) d at k p v = stored_on w (set d (at + k) (v / p % 256)) at (suc k) (p * 256) v

stored-on_sets : (w : ℕ) (d : List ℕ) (at k p v : ℕ) → stored_on w d at k p v ≡ sets d (at + k) (bytes_of w (v / p))
unfolding bytes_of
stored-on_sets zero d at k p v = refl
stored-on_sets (suc w) d at k p v =
    stored-on_sets w (set d (at + k) (v / p % 256)) at (suc k) (p * 256) v ∙ rw (add-suc, ← div-div-eq-div-mul v p 256) refl

pub stored_bytes : (w : ℕ) (d : List ℕ) (at v : ℕ)
    → stored_on w (set d at (v % 256)) at 1 256 v ≡ sets d at (bytes_of (suc w) v)
unfolding bytes_of
stored_bytes w d at v = stored-on_sets w (set d at (v % 256)) at 1 256 v ∙ rw add-one refl

-- An element fetched and stored is moved byte by byte.
pub moved : (w : ℕ) (src dst out : List ℕ) (i j value : ℕ) → i + w ≤ length src → Octets src
    → value ≡ number (take w (drop i src)) → out ≡ sets dst j (bytes_of w value) → out ≡ sets dst j (take w (drop i src))
moved w src dst out i j value h o e q = q ∙ rw (e, bytes_fetched w src i h o) refl

-- An element that has not 4 bytes has 2.
pub narrow_width : (w : ℕ) → IsWidth w → (w ≡ 4 → ⊥) → w ≡ 2
narrow_width w e n = rw (ne_eqb w 4 n) at e
