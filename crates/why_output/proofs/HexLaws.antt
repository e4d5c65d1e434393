-- Laws of hexadecimal text: a turn of the loop that reads it, and how far it comes.
use Prim.Native.Nat.{ℕ, zero, suc, ◌+◌, ◌-◌, ◌*◌, min, ◌≤◌, ◌<◌}
use mathlib.Core.Path.{◌≡◌, refl, sym, ap, ◌∙◌}
use mathlib.Core.List.{List, [], ◌∷◌, ◌++◌, append-nil}
use mathlib.Core.Bool.{Bool, true, false, cond}
use native.Mathlib.Omega.{arith}
use native.Mathlib.Nat.{le_refl}
use lib.ListN.{length, get_or, take, drop, length-append, length-drop, drop_of_length-le, get_or-eq_default}
use lib.Seq.{drop-drop, get_or-drop, take-append-le, take-length}
use lib.Dec.{ltb}
use borrow.Author.Tests.{lt-ltb, ltb-true}
use Rattle.lbp16.proofs.BoolLaws.{same_ltb}
use Rattle.text.specs.Number.{ascii}
use Rattle.text.specs.Find.{bytes_before, capital, hex_value}
use Rattle.text.specs.Room.{Filled, filled, put_at, text_left}
use Rattle.text.proofs.RoomLaws.{put-none, put_then, put-within, put_front}
use Rattle.std.specs.Prelude.{None, Some, Ok, Err}
use Rattle.why_output.specs.Hex.{Hex, Turn, no_digit, is_blank, turn_at, taken_by, read_by, hex_at, hex_from, hex_of, has_byte, Reads}
use Rattle.why_output.specs.declared.hex.NoDigit.{NoDigit}

-- what stands at a place, from the tests that the code makes
module _ (text : List ℕ) (i : ℕ) {blank : Bool} (e : blank ≡ is_blank (get_or text i 0)) where
  here : get_or (drop i text) 0 0 ≡ get_or text i 0
  here = get_or-drop i text 0 0 ∙ ap (λ (j : ℕ). get_or text j 0) (omega arith)

  pub turn-blank : blank ≡ true → Ok None ≡ turn_at i (drop i text)
  unfolding turn_at
  turn-blank t = rw (here, ← e, t) refl

  module _ (f : blank ≡ false) where
    pub turn-bad : {x : NoDigit} → x.place ≡ i → hex_value (get_or text i 0) ≡ 16 → Err x ≡ turn_at i (drop i text)
    unfolding turn_at
    turn-bad a h = rw (here, ← e, f, h, ← a) refl

    module _ {high : ℕ} (g : high ≡ hex_value (get_or text i 0)) (l : high < 16) where
      pub turn-half : {x : NoDigit} → x.place ≡ i + 1 → hex_value (get_or text (i + 1) 0) ≡ 16 → Err x ≡ turn_at i (drop i text)
      unfolding turn_at
      turn-half a h = rw (here, get_or-drop i text 1 0, ← e, f, ← g, h, lt-ltb high 16 l, ← a) refl

      pub turn_byte : {low : ℕ} → low ≡ hex_value (get_or text (i + 1) 0) → low < 16 → {b : ℕ} → b ≡ 16 * high + low
          → Ok (Some b) ≡ turn_at i (drop i text)
      unfolding turn_at
      turn_byte {low} k m q = rw (here, get_or-drop i text 1 0, ← e, f, ← g, ← k, lt-ltb high 16 l, lt-ltb low 16 m, q) refl

-- no byte has the value of a digit behind the end
pub no_value : 16 ≡ hex_value 0
unfolding hex_value bytes_before capital ascii
no_value = refl

pub past-digit : (text : List ℕ) (i : ℕ) → length text ≤ i → 16 ≡ hex_value (get_or text i 0)
past-digit text i h = no_value ∙ ap hex_value (sym (get_or-eq_default text 0 h))

hex_end : (fuel : ℕ) (read : List ℕ) (at : ℕ) → hex_from fuel read at [] ≡ Hex.bytes read
unfolding hex_from
hex_end zero read at = refl
hex_end (suc fuel) read at = refl

hex_step : (fuel : ℕ) (read : List ℕ) (at : ℕ) (rest : List ℕ) → 1 ≤ length rest → {t : Turn} → t ≡ turn_at at rest
    → hex_from (suc fuel) read at rest ≡ hex_at t (hex_from fuel (read ++ read_by t) (at + taken_by t) (drop (taken_by t) rest))
unfolding hex_from
hex_step fuel read at [] h e = absurd (omega arith)
hex_step fuel read at (c ∷ cs) h e = rw e refl

-- What the text says is what it says from a place on, behind the bytes read so far, which stand in the room.
pub record Reading (text room₀ room : List ℕ) (n i : ℕ) : Type 0 where
  pub fuel : ℕ
  pub read : List ℕ
  pub same : hex_of text ≡ hex_from fuel read i (drop i text)
  pub enough : length text - i ≤ fuel
  pub put : filled n room ≡ put_at read 0 room₀
  pub room-bytes : length room ≡ length room₀

pub reading-start : (text room : List ℕ) → Reading text room room 0 0
unfolding hex_of
reading-start text room =
    record { fuel = length text; read = []; same = refl; enough = omega arith; put = put-none room 0 (omega arith); room-bytes = refl }

module _ {text room₀ room : List ℕ} {n i : ℕ} (s : Reading text room₀ room n i) where
  pub reading-end : length text ≤ i → Reads (hex_of text) (Ok n) room₀ room
  unfolding Reads
  reading-end h = rw (s.same, drop_of_length-le text h, hex_end s.fuel s.read i) s.put

  module _ (h : i < length text) {t : Turn} (e : t ≡ turn_at i (drop i text)) where
    some : 1 ≤ length (drop i text)
    some = rw length-drop (omega arith)

    turned : (k : ℕ) → s.fuel ≡ suc k
        → hex_of text ≡ hex_at t (hex_from k (s.read ++ read_by t) (i + taken_by t) (drop (taken_by t) (drop i text)))
    turned k f = s.same ∙ rw f (hex_step k s.read i (drop i text) some e)

    fuelled : (P : Type 0) → ((k : ℕ) → s.fuel ≡ suc k → P) → P
    fuelled P go = on s.fuel refl
      where
        on : (m : ℕ) → s.fuel ≡ m → P
        on zero z = absurd (omega (arith, s.enough))
        on (suc k) z = go k z

    pub reading-bad : (x : NoDigit) → t ≡ Err x → (room₁ : List ℕ) → Reads (hex_of text) (Err x) room₀ room₁
    unfolding Reads hex_at
    reading-bad x q room₁ = fuelled _ (λ m f. rw (turned m f, q) refl)

    pub reading-blank : t ≡ Ok None → Reading text room₀ room n (i + 1)
    unfolding hex_at read_by taken_by
    reading-blank q =
        fuelled _ (λ m f.
        record {
          fuel = m;
          read = s.read;
          same = rw (q, append-nil, drop-drop) at (turned m f);
          enough = omega (arith, s.enough);
          put = s.put;
          room-bytes = s.room-bytes;
        })

    pub reading-byte : (b : ℕ) → t ≡ Ok (Some b) → {r : ℕ} {room₁ : List ℕ} → filled r room₁ ≡ put_at (b ∷ []) n room
        → Reading text room₀ room₁ r (i + 2)
    unfolding hex_at read_by taken_by
    reading-byte b q g =
        fuelled _ (λ m f.
        record {
          fuel = m;
          read = s.read ++ (b ∷ []);
          same = rw (q, drop-drop) at (turned m f);
          enough = omega (arith, s.enough);
          put = put_then s.read (b ∷ []) 0 room₀ s.put g;
          room-bytes = (put-within (b ∷ []) room n g).1 ∙ s.room-bytes;
        })

-- Two digits for a byte, and no place further than the end.
unfoldable pub Fits : Hex → ℕ → Type 0
Fits (Hex.bytes read) n = 2 * length read ≤ n
Fits (Hex.bad k) n = k ≤ n

pub fits_more : (x : Hex) {n m : ℕ} → n ≤ m → Fits x n → Fits x m
unfolding Fits
fits_more (Hex.bytes read) h f = omega arith
fits_more (Hex.bad k) h f = omega arith

second : (cs : List ℕ) → ltb (hex_value (get_or cs 0 0)) 16 ≡ true → 1 ≤ length cs
second [] e = let h = ltb-true (hex_value 0) 16 e in absurd (omega (arith, no_value))
second (c ∷ cs) e = omega arith

turn-cases : (P : Turn → Type 0) (at c : ℕ) (cs : List ℕ) → P (Ok None) → ((k : ℕ) → k ≤ at + 1 → P (no_digit k))
    → ((b : ℕ) → 1 ≤ length cs → P (Ok (Some b))) → P (turn_at at (c ∷ cs))
unfolding turn_at
turn-cases P at c cs blank bad byte =
    go (is_blank c) (ltb (hex_value c) 16) (ltb (hex_value (get_or cs 0 0)) 16) refl
  where
    go : (x y z : Bool) → ltb (hex_value (get_or cs 0 0)) 16 ≡ z
        → P (cond x (Ok None) (cond y (cond z (Ok (Some (16 * hex_value c + hex_value (get_or cs 0 0)))) (no_digit (at + 1))) (no_digit at)))
    go true y z e = blank
    go false true true e = byte _ (second cs e)
    go false true false e = bad (at + 1) (le_refl _)
    go false false z e = bad at (omega arith)

two_digits : (at : ℕ) (rest : List ℕ) (b : ℕ) → 1 ≤ length rest → turn_at at rest ≡ Ok (Some b) → 2 ≤ length rest
two_digits at [] b h e = absurd (omega arith)
two_digits at (c ∷ cs) b h e =
    turn-cases (λ t. t ≡ Ok (Some b) → 2 ≤ length (c ∷ cs)) at c cs
    (λ q. let z : ◌≡◌ {A = ℕ} 0 1 = cc in absurd (omega arith))
    (λ k l q. let z : ◌≡◌ {A = ℕ} 0 1 = cc in absurd (omega arith))
    (λ d l q. omega arith)
    e

pub byte-within : (text : List ℕ) (i : ℕ) → i < length text → {t : Turn} → t ≡ turn_at i (drop i text) → (b : ℕ) → t ≡ Ok (Some b)
    → i + 2 ≤ length text
byte-within text i h e b q =
    let two : 2 ≤ length (drop i text) = two_digits i (drop i text) b (rw length-drop (omega arith)) (sym e ∙ q) in
    let l = length-drop i text in
    omega arith

hex_fits : (fuel : ℕ) (read : List ℕ) (at : ℕ) (rest : List ℕ) (n : ℕ) → 2 * length read ≤ at → at + length rest ≤ n
    → Fits (hex_from fuel read at rest) n
unfolding hex_from Fits hex_at read_by taken_by
hex_fits zero read at rest n a b = omega arith
hex_fits (suc fuel) read at [] n a b = omega arith
hex_fits (suc fuel) read at (c ∷ cs) n a b =
    turn-cases (λ t. Fits (hex_at t (hex_from fuel (read ++ read_by t) (at + taken_by t) (drop (taken_by t) (c ∷ cs)))) n) at c cs
    (hex_fits fuel (read ++ []) (at + 1) cs n (rw append-nil (omega arith)) (omega arith))
    (λ k h. omega arith)
    (λ d h. hex_fits fuel (read ++ (d ∷ [])) (at + 2) (drop 1 cs) n (rw length-append (omega arith)) (rw length-drop (omega arith)))

pub text-fits : (text : List ℕ) → Fits (hex_of text) (length text)
unfolding hex_of
text-fits text = hex_fits (length text) [] 0 text (length text) (omega arith) (omega arith)

-- In a room of half the text's length all of it stands.
pub read_whole : (text room₀ room : List ℕ) (n : ℕ) → Reads (hex_of text) (Ok n) room₀ room
    → length text ≤ 2 * length room₀ → hex_of text ≡ Hex.bytes (take n room)
unfolding Reads Fits text_left
read_whole text room₀ room n r l = go (hex_of text) (text-fits text) r
  where
    go : (x : Hex) → Fits x (length text) → Reads x (Ok n) room₀ room → x ≡ Hex.bytes (take n room)
    go (Hex.bad k) f z = absurd z
    go (Hex.bytes read) f z =
        let w = z ∙ put_front read room₀ (omega arith) in
        let a : n ≡ length read = ap (λ (x : Filled). x.next) w in
        let b : room ≡ read ++ drop (length read) room₀ = ap (λ (x : Filled). x.room) w in
        rw (a, b, take-append-le (length read) read (drop (length read) room₀) (le_refl _), take-length read) refl

pub read-bad : (text room₀ room : List ℕ) (e : NoDigit) → Reads (hex_of text) (Err e) room₀ room → hex_of text ≡ Hex.bad e.place
unfolding Reads
read-bad text room₀ room e r = go (hex_of text) r
  where
    go : (x : Hex) → Reads x (Err e) room₀ room → x ≡ Hex.bad e.place
    go (Hex.bad at) z = rw z refl
    go (Hex.bytes read) z = absurd z

-- A room of one byte tells whether there is any.
pub has_byte_lem : (x : Hex) (room₀ room : List ℕ) (n : ℕ) → Reads x (Ok n) room₀ room → length room₀ ≡ 1 → ltb 0 n ≡ has_byte x
unfolding Reads has_byte put_at
has_byte_lem (Hex.bad k) room₀ room n r l = absurd r
has_byte_lem (Hex.bytes read) room₀ room n r l =
    let a : n ≡ min (0 + length read) (length room₀) = ap (λ (x : Filled). x.next) r in
    same_ltb 0 n 0 (length read) (λ h. omega arith) (λ h. omega arith)

pub has_none : (x : Hex) (room₀ room : List ℕ) (e : NoDigit) → Reads x (Err e) room₀ room → false ≡ has_byte x
unfolding Reads has_byte
has_none (Hex.bad at) room₀ room e r = refl
has_none (Hex.bytes read) room₀ room e r = absurd r
