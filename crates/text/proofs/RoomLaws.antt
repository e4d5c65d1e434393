-- Laws of texts put into a room.
use Prim.Native.Nat.{ℕ, suc, ◌+◌, ◌-◌, min, ◌≤◌, ◌<◌}
use mathlib.Core.Path.{◌≡◌, refl, sym, ap, ◌∙◌}
use mathlib.Core.List.{List, [], ◌∷◌, ◌++◌}
use native.Mathlib.Omega.{arith}
use native.Mathlib.Decide.{dec_le}
use native.Mathlib.Numerals.{add-one}
use native.Mathlib.Nat.{zero-add}
use lib.ListN.{length, get_or, set, drop, length-append, length-set, drop_of_length-le}
use lib.Seq.{sets, sets-eq, drop-cons, length-sets, set_out}
use Rattle.text.specs.Room.{Filled, filled, put_at, text_left}

alike : {m n : ℕ} {l k : List ℕ} → m ≡ n → l ≡ k → filled m l ≡ filled n k
alike e f = λ i. record { next = e i; room = f i }

-- past the room's end nothing is put
sets_past : (l : List ℕ) (i : ℕ) (vs : List ℕ) → length l ≤ i → sets l i vs ≡ l
sets_past l i [] h = refl
sets_past l i (v ∷ vs) h = rw (set_out l i v h) (sets_past l (suc i) vs (omega arith))

put-past : (text room : List ℕ) (at : ℕ) → length room ≤ at → put_at text at room ≡ filled (length room) room
unfolding put_at
put-past text room at h = alike (omega arith) (sets_past room at text h)

-- a byte and then the rest
put_cons : (c : ℕ) (text room : List ℕ) (at : ℕ) → put_at (c ∷ text) at room ≡ put_at text (suc at) (set room at c)
unfolding put_at
put_cons c text room at = alike (omega (arith, length-set room at c)) refl

put-empty : (room : List ℕ) (at : ℕ) → put_at [] at room ≡ filled (min at (length room)) room
unfolding put_at
put-empty room at = alike (omega arith) refl

pub put-none : (room : List ℕ) (at : ℕ) → at ≤ length room → filled at room ≡ put_at [] at room
put-none room at h = alike (omega arith) refl ∙ sym (put-empty room at)

-- a place past the room's end is as good as the end
pub put-least : (text room : List ℕ) (at : ℕ) → put_at text (min at (length room)) room ≡ put_at text at room
put-least text room at = go (dec_le at (length room))
  where
    go : Dec (at ≤ length room) → put_at text (min at (length room)) room ≡ put_at text at room
    go (yes h) = let e : min at (length room) ≡ at = omega arith in rw e refl
    go (no h) = put-past text room _ (omega arith) ∙ sym (put-past text room at (omega arith))

-- A text and behind it another are one.
pub put-append : (a b : List ℕ) (at : ℕ) (room : List ℕ)
    → put_at (a ++ b) at room ≡ put_at b (put_at a at room).next (put_at a at room).room
put-append [] b at room = rw (put-empty room at) (sym (put-least b room at))
put-append (c ∷ a) b at room = rw (put_cons c (a ++ b) room at, put_cons c a room at) (put-append a b (suc at) (set room at c))

-- the same as the code comes to it
pub put_rest : (a b : List ℕ) (at : ℕ) (room : List ℕ) {r : ℕ} {room₁ : List ℕ} → filled r room₁ ≡ put_at a at room
    → put_at b r room₁ ≡ put_at (a ++ b) at room
put_rest a b at room e = ap (λ (x : Filled). put_at b x.next x.room) e ∙ sym (put-append a b at room)

pub put_then : (a b : List ℕ) (at : ℕ) (room : List ℕ) {r r₂ : ℕ} {room₁ room₂ : List ℕ} → filled r room₁ ≡ put_at a at room
    → filled r₂ room₂ ≡ put_at b r room₁ → filled r₂ room₂ ≡ put_at (a ++ b) at room
put_then a b at room e f = f ∙ put_rest a b at room e

-- a turn of the loop over a text's bytes, and its end
module _ (text room : List ℕ) (from i : ℕ) where
  pub put_step : i < length text
      → put_at (drop (i + 1) text) (from + (i + 1)) (set room (from + i) (get_or text i 0)) ≡ put_at (drop i text) (from + i) room
  put_step h =
      let e : from + (i + 1) ≡ suc (from + i) = omega arith in
      rw (drop-cons text i 0 h, e, add-one) (sym (put_cons (get_or text i 0) (drop (suc i) text) room (from + i)))

  pub put-end : from ≤ length room → i ≡ min (length text) (length room - from)
      → filled (from + i) room ≡ put_at (drop i text) (from + i) room
  put-end h e = go (dec_le (length text) i)
    where
      go : Dec (length text ≤ i) → filled (from + i) room ≡ put_at (drop i text) (from + i) room
      go (yes k) = rw (drop_of_length-le text k) (put-none room (from + i) (omega arith))
      go (no k) = alike (omega arith) refl ∙ sym (put-past (drop i text) room (from + i) (omega arith))

-- the place behind a text stands within the room, which keeps its length
pub put-within : (text room : List ℕ) (at : ℕ) {room₁ : List ℕ} {n : ℕ} → filled n room₁ ≡ put_at text at room
    → (n ≤ length room₁) × (length room₁ ≡ length room)
unfolding put_at
put-within text room at {room₁} {n} e =
    let a : n ≡ min (at + length text) (length room) = ap (λ (x : Filled). x.next) e in
    let b : length room₁ ≡ length room = ap (λ (x : Filled). length x.room) e ∙ length-sets room at text in
    (omega arith, b)

-- what then stands in the room
pub put-room : (text room : List ℕ) (at : ℕ) {room₁ : List ℕ} {n : ℕ} → filled n room₁ ≡ put_at text at room → room₁ ≡ sets room at text
unfolding put_at
put-room text room at e = ap (λ (x : Filled). x.room) e

-- Where a text fits it stands whole at the front.
pub put_front : (text room : List ℕ) → length text ≤ length room → put_at text 0 room ≡ text_left text room
unfolding put_at text_left
put_front text room h = alike (omega arith) (sets-eq text room 0 (omega arith) ∙ rw zero-add refl)

pub put_whole : (text room : List ℕ) {room₁ : List ℕ} {n : ℕ} → filled n room₁ ≡ put_at text 0 room → length text ≤ length room
    → room₁ ≡ text ++ drop (length text) room
unfolding text_left
put_whole text room e h = ap (λ (x : Filled). x.room) (e ∙ put_front text room h)

-- and so it may be taken from there
pub left-within : (text room : List ℕ) {room₁ : List ℕ} {n : ℕ} → filled n room₁ ≡ text_left text room → n ≤ length room₁
unfolding text_left
left-within text room {room₁ = room₁} {n = n} e =
    let a : n ≡ length text = ap (λ (x : Filled). x.next) e in
    let b : length room₁ ≡ length text + length (drop (length text) room) =
    ap (λ (x : Filled). length x.room) e ∙ length-append text _ in
    omega arith
