-- What a datagram that is not refused is to the card, and what is told with it.
use Prim.Native.Nat.{ℕ, ◌+◌, ◌≤◌}
use mathlib.Core.Path.{◌≡◌, refl}
use mathlib.Core.List.{List, [], ◌∷◌}
use mathlib.Core.Bool.{Bool, true, false, not, ◌||◌, ◌&&◌}
use native.Mathlib.Omega.{arith}
use native.Mathlib.Numerals.{add-one}
use lib.ListN.{length, length-append}
use borrow.Author.Tests.{not-false}
use Rattle.packet.specs.Bytes.{bytes_of}
use Rattle.packet.specs.Rules.{first}
use Rattle.packet.proofs.RuleLaws.{none-holds}
use Rattle.cue.specs.Output.{framed}
use Rattle.capture.specs.Capture.{Exchange, asked, answered, Told, requests, replies, is_waiting, datagram_refusals, answer, with_datagram}
use Rattle.capture.specs.Capture.{bytes_of_exchange, recording_of, frames_of}
use Rattle.capture.specs.Inside.{Progress, progress_of, turn_of, moved_by}
use Rattle.capture.specs.declared.datagram.Datagram.{Datagram}

pub data Case (t : Told) (d : Datagram) : Type 0 where
  asks : requests t.known t.card d ≡ true → d.whole ≡ true → Case t d
  answers : requests t.known t.card d ≡ false → replies t.known t.card d ≡ true → d.whole ≡ true → (k : ℕ) (packet : List ℕ)
      (before : List Exchange) → t.exchanges ≡ asked k packet ∷ before → Case t d
  other : requests t.known t.card d ≡ false → replies t.known t.card d ≡ false → Case t d

-- what a datagram is to the card, from the tests that the code makes
pub turn-told : (p : Progress) (d : Datagram) (a b w v : Bool) → a ≡ requests p.known p.card d → b ≡ replies p.known p.card d → d.whole ≡ w
    → p.waiting ≡ v
    → record {
      request = a;
      reply = b;
      number = first (record { number = 93; holds = (a || b) && not w } ∷ record { number = 94; holds = b && not v } ∷ []);
    } ≡ turn_of p d
unfolding turn_of datagram_refusals
turn-told p d a b w v e f g h = rw (e, f, ← g, ← h) refl

-- a request is no reply
pub not_both : (t : Told) (d : Datagram) → requests t.known t.card d ≡ true → replies t.known t.card d ≡ false
unfolding replies
not_both t d e = rw e refl

-- a request that waits is the last
waits : (xs : List Exchange) → is_waiting xs ≡ true → (k : ℕ) × (packet : List ℕ) × (before : List Exchange) × (xs ≡ asked k packet ∷ before)
unfolding is_waiting
waits [] e = let z : ◌≡◌ {A = ℕ} 0 1 = cc in absurd (omega arith)
waits (asked k packet ∷ before) e = (k, packet, before, refl)
waits (answered k packet reply ∷ before) e = let z : ◌≡◌ {A = ℕ} 0 1 = cc in absurd (omega arith)

pub cases : (t : Told) (d : Datagram) → first (datagram_refusals t.known t.card (is_waiting t.exchanges) d) ≡ 0 → Case t d
unfolding datagram_refusals
cases t d e =
    let h = none-holds (datagram_refusals t.known t.card (is_waiting t.exchanges) d) (omega arith, (omega arith, tt)) e in
    go (requests t.known t.card d) (replies t.known t.card d) refl refl h.0 h.1.0
  where
    go : (a b : Bool) → requests t.known t.card d ≡ a → replies t.known t.card d ≡ b → ((a || b) && not d.whole) ≡ false
        → (b && not (is_waiting t.exchanges)) ≡ false → Case t d
    go true b p q v w = Case.asks p (not-false _ v)
    go false true p q v w =
        let x = waits t.exchanges (not-false _ w) in
        Case.answers p q (not-false _ v) x.0 x.1 x.2 x.3
    go false false p q v w = Case.other p q

-- mark and length have four bytes
pub framed-length : (p : List ℕ) → length (framed p) ≡ 4 + length p
unfolding framed bytes_of
framed-length p = omega arith

pub exchange_length : (k : ℕ) (packet reply : List ℕ)
    → (length (bytes_of_exchange (asked k packet)) ≡ 8 + length packet)
    × (length (bytes_of_exchange (answered k packet reply)) ≡ 8 + length packet + length reply)
unfolding bytes_of_exchange
exchange_length k packet reply =
    (rw (length-append, framed-length, framed-length) (omega arith), rw (length-append, framed-length, framed-length) (omega arith))

pub frames-length : (xs : List Exchange) → length (frames_of xs) ≡ length xs
unfolding frames_of
frames-length [] = refl
frames-length (x ∷ before) = rw (length-append, frames-length before) (omega arith)

pub recording_more : (x : Exchange) (before : List Exchange)
    → length (recording_of (x ∷ before)) ≡ length (recording_of before) + length (bytes_of_exchange x)
unfolding recording_of
recording_more x before = length-append (recording_of before) (bytes_of_exchange x)

-- what is told with a datagram, by what it is
module _ (k : ℕ) (t : Told) (d : Datagram) (bytes : List ℕ) where
  pub told-request : requests t.known t.card d ≡ true
      → with_datagram k t d bytes ≡ record { known = true; card = d.destination; exchanges = asked k bytes ∷ t.exchanges }
  unfolding with_datagram
  told-request e = rw e refl

  pub told-reply : requests t.known t.card d ≡ false → replies t.known t.card d ≡ true → (k₀ : ℕ) (packet : List ℕ)
      (before : List Exchange) → t.exchanges ≡ asked k₀ packet ∷ before
      → with_datagram k t d bytes ≡ record { known = t.known; card = t.card; exchanges = answered k₀ packet bytes ∷ before }
  unfolding with_datagram answer
  told-reply e g k₀ packet before x = rw (e, g, x) refl

  pub told-passed : requests t.known t.card d ≡ false → replies t.known t.card d ≡ false → with_datagram k t d bytes ≡ t
  unfolding with_datagram
  told-passed e g = rw (e, g) refl

-- the numbers after a datagram are those of what is told with it
pub moved-is : (k : ℕ) (t : Told) (d : Datagram) (bytes : List ℕ) → Case t d → (d.whole ≡ true → length bytes ≡ d.bytes)
    → moved_by (progress_of t) d (turn_of (progress_of t) d) ≡ progress_of (with_datagram k t d bytes)
unfolding moved_by progress_of turn_of is_waiting
moved-is k t d bytes (Case.asks e w) n =
    let m = recording_more (asked k bytes) t.exchanges in
    let l = (exchange_length k bytes []).0 in
    let x : length (recording_of t.exchanges) + 8 + d.bytes ≡ length (recording_of (asked k bytes ∷ t.exchanges)) = omega (arith, n w) in
    rw (told-request k t d bytes e, e, x, add-one) refl
moved-is k t d bytes (Case.answers e g w k₀ packet before q) n =
    let m = recording_more (answered k₀ packet bytes) before in
    let l = exchange_length k₀ packet bytes in
    let o = recording_more (asked k₀ packet) before in
    let x : length (recording_of (asked k₀ packet ∷ before)) + d.bytes ≡ length (recording_of (answered k₀ packet bytes ∷ before)) =
    omega (arith, n w, l.0, l.1) in
    rw (told-reply k t d bytes e g k₀ packet before q, e, g, q, x) refl
moved-is k t d bytes (Case.other e g) n = rw (told-passed k t d bytes e g, e, g) refl

-- What is told only grows.
pub record Grows (xs ys : List Exchange) : Type 0 where
  pub bytes : length (recording_of xs) ≤ length (recording_of ys)
  pub packets : length xs ≤ length ys

pub grows_self : (xs : List Exchange) → Grows xs xs
grows_self xs = record { bytes = omega arith; packets = omega arith }

pub grown : (k : ℕ) (t : Told) (d : Datagram) (bytes : List ℕ) → Case t d → Grows t.exchanges (with_datagram k t d bytes).exchanges
grown k t d bytes (Case.asks e w) =
    let m = recording_more (asked k bytes) t.exchanges in
    rw (told-request k t d bytes e) (record { bytes = omega arith; packets = omega arith })
grown k t d bytes (Case.answers e g w k₀ packet before q) =
    let m = recording_more (answered k₀ packet bytes) before in
    let l = exchange_length k₀ packet bytes in
    let o = recording_more (asked k₀ packet) before in
    rw (told-reply k t d bytes e g k₀ packet before q, q) (record { bytes = omega (arith, l.0, l.1); packets = omega arith })
grown k t d bytes (Case.other e g) = rw (told-passed k t d bytes e g) (grows_self t.exchanges)
