-- Frames that are passed over, put in behind the first request, change nothing but the frames' numbers.
use Prim.Native.Nat.{ℕ, zero, suc, ◌+◌, ◌-◌, ◌≤◌}
use mathlib.Core.Path.{◌≡◌, refl, sym, ap, ap₂, ◌∙◌}
use mathlib.Core.List.{List, [], ◌∷◌, ◌++◌, map, append_assoc}
use mathlib.Core.Bool.{Bool, true, false, cond}
use native.Mathlib.Omega.{arith}
use native.Mathlib.Nat.{le_refl}
use lib.ListN.{length, drop, length-append, length-drop, get_or-append}
use lib.Seq.{drop-append_seam}
use lib.Dec.{eqb, ltb}
use borrow.Author.Tests.{eqb-true, eqb-false, le-ltb}
use Rattle.lbp16.proofs.ListLaws.{slice_front}
use Rattle.packet.specs.Rules.{first}
use Rattle.capture.specs.File.{byte_at, pair_at, quad_at, low_quad_at, number_in, frame_bytes, frame_in}
use Rattle.capture.specs.Capture.{Exchange, asked, answered, Told, nothing_told, requests, replies, is_waiting, datagram_refusals}
use Rattle.capture.specs.Capture.{seen_at, data_at, frame_refusals, answer, with_datagram, Heard, refused, exchanges, heard_from, heard}
use Rattle.capture.specs.Capture.{bytes_of_exchange, recording_of}
use Rattle.capture.specs.File.{File}
use Rattle.capture.specs.declared.datagram.Datagram.{Datagram}
use Rattle.capture.proofs.DatagramLaws.{frame-within}
use Rattle.capture.proofs.TurnLaws.{told-passed}
use Rattle.capture.proofs.HeardLaws.{heard-end, heard-refused, heard-next, frame-whole, not_cut}

-- an exchange without its frame's number
unfoldable pub unnumbered : Exchange → Exchange
unnumbered (asked k packet) = asked 0 packet
unnumbered (answered k packet reply) = answered 0 packet reply

unfoldable pub blind : Heard → Heard
blind (refused n k) = refused n 0
blind (exchanges xs) = exchanges (map unnumbered xs)

-- the recording does not depend on the numbers
pub recording_blind : (xs : List Exchange) → recording_of (map unnumbered xs) ≡ recording_of xs
unfolding recording_of bytes_of_exchange unnumbered
recording_blind [] = refl
recording_blind (asked k packet ∷ before) = rw (recording_blind before) refl
recording_blind (answered k packet reply ∷ before) = rw (recording_blind before) refl

-- What is told, but for the numbers.
pub record Alike (s t : Told) : Type 0 where
  pub known : s.known ≡ t.known
  pub card : s.card ≡ t.card
  pub exchanges : map unnumbered s.exchanges ≡ map unnumbered t.exchanges

waiting-blind : (xs : List Exchange) → is_waiting (map unnumbered xs) ≡ is_waiting xs
unfolding is_waiting unnumbered
waiting-blind [] = refl
waiting-blind (asked k packet ∷ before) = refl
waiting-blind (answered k packet reply ∷ before) = refl

answer-blind : (reply : List ℕ) (xs : List Exchange) → map unnumbered (answer reply xs) ≡ answer reply (map unnumbered xs)
unfolding answer unnumbered
answer-blind reply [] = refl
answer-blind reply (asked k packet ∷ before) = refl
answer-blind reply (answered k packet other ∷ before) = refl

waiting-alike : {s t : Told} → Alike s t → is_waiting s.exchanges ≡ is_waiting t.exchanges
waiting-alike {s} {t} h = sym (waiting-blind s.exchanges) ∙ ap is_waiting h.exchanges ∙ waiting-blind t.exchanges

pub refusals-alike : (f : File) {s t : Told} → Alike s t → (rest : List ℕ) → frame_refusals f s rest ≡ frame_refusals f t rest
unfolding frame_refusals
refusals-alike f h rest = rw (h.known, h.card, waiting-alike h) refl

pub with_alike : (k j : ℕ) {s t : Told} → Alike s t → (d : Datagram) (bytes : List ℕ) → Alike (with_datagram k s d bytes) (with_datagram j t d bytes)
unfolding with_datagram unnumbered
with_alike k j {s} {t} h d bytes =
    rw (ap₂ (λ a b. requests a b d) h.known h.card, ap₂ (λ a b. replies a b d) h.known h.card)
    (go (requests t.known t.card d) (replies t.known t.card d))
  where
    go : (a b : Bool)
        → Alike
        (cond a (record { known = true; card = d.destination; exchanges = asked k bytes ∷ s.exchanges })
        (cond b (record { known = s.known; card = s.card; exchanges = answer bytes s.exchanges }) s))
        (cond a (record { known = true; card = d.destination; exchanges = asked j bytes ∷ t.exchanges })
        (cond b (record { known = t.known; card = t.card; exchanges = answer bytes t.exchanges }) t))
    go true b = record { known = refl; card = refl; exchanges = ap (λ (xs : List Exchange). asked 0 bytes ∷ xs) h.exchanges }
    go false true =
        record {
          known = h.known;
          card = h.card;
          exchanges = answer-blind bytes s.exchanges ∙ ap (answer bytes) h.exchanges ∙ sym (answer-blind bytes t.exchanges);
        }
    go false false = h

-- a frame that is not refused takes bytes
behind-less : (f : File) (t : Told) (rest : List ℕ) → first (frame_refusals f t rest) ≡ 0
    → 16 + length (drop (frame_bytes f.big rest) rest) ≤ length rest
behind-less f t rest e =
    let w = frame-within f.big rest (not_cut f t rest e) in
    rw length-drop (omega (arith, w.0, w.1))

-- What is heard does not depend on the first frame's number, nor on fuel that is enough.
pub alike-heard : (f : File) (m n k j : ℕ) (s t : Told) (rest : List ℕ) → Alike s t → length rest ≤ m → length rest ≤ n
    → blind (heard_from m f k s rest) ≡ blind (heard_from n f j t rest)
unfolding blind
alike-heard f zero n k j s t rest h p q =
    let z : length rest ≡ 0 = omega arith in
    rw (heard-end f k s rest zero z, heard-end f j t rest n z) (ap exchanges h.exchanges)
alike-heard f (suc m) zero k j s t rest h p q =
    let z : length rest ≡ 0 = omega arith in
    rw (heard-end f k s rest (suc m) z, heard-end f j t rest zero z) (ap exchanges h.exchanges)
alike-heard f (suc m) (suc n) k j s t rest h p q =
    go (eqb (length rest) 0) (eqb (first (frame_refusals f t rest)) 0) refl refl
    (λ l v. alike-heard f m n (k + 1) (j + 1) _ _ (drop (frame_bytes f.big rest) rest) (with_alike k j h (seen_at f rest) (data_at f rest)) l v)
  where
    same : first (frame_refusals f s rest) ≡ first (frame_refusals f t rest)
    same = ap first (refusals-alike f h rest)

    go : (a b : Bool) → eqb (length rest) 0 ≡ a → eqb (first (frame_refusals f t rest)) 0 ≡ b
        → (length (drop (frame_bytes f.big rest) rest) ≤ m → length (drop (frame_bytes f.big rest) rest) ≤ n
        → blind (heard_from m f (k + 1) (with_datagram k s (seen_at f rest) (data_at f rest)) (drop (frame_bytes f.big rest) rest))
        ≡ blind (heard_from n f (j + 1) (with_datagram j t (seen_at f rest) (data_at f rest)) (drop (frame_bytes f.big rest) rest)))
        → blind (heard_from (suc m) f k s rest) ≡ blind (heard_from (suc n) f j t rest)
    go true b v w more =
        let z = eqb-true (length rest) 0 v in
        rw (heard-end f k s rest (suc m) z, heard-end f j t rest (suc n) z) (ap exchanges h.exchanges)
    go false true v w more =
        let e = eqb-true _ 0 w in
        let some = eqb-false (length rest) 0 v in
        let l = behind-less f t rest e in
        rw (heard-next f k s rest m some (same ∙ e), heard-next f j t rest n some e) (more (omega arith) (omega arith))
    go false false v w more =
        let some = eqb-false (length rest) 0 v in
        let bad = eqb-false _ 0 w in
        rw (heard-refused f k s rest m some _ same bad, heard-refused f j t rest n some _ refl bad) refl

-- One whole frame, and nothing behind it.
pub record One (big : Bool) (frame : List ℕ) : Type 0 where
  pub is : frame_bytes big frame ≡ length frame
  pub some : length frame ≡ 0 → ⊥

-- four bytes that stand in a list's first part
number-front : (big : Bool) (a more : List ℕ) → 12 ≤ length a → number_in big (a ++ more) 8 ≡ number_in big a 8
unfolding number_in quad_at pair_at low_quad_at byte_at
number-front big a more h =
    rw (
      get_or-append a more 0 8 (omega arith),
      get_or-append a more 0 9 (omega arith),
      get_or-append a more 0 10 (omega arith),
      get_or-append a more 0 11 (omega arith),
    )
    refl

module _ (big : Bool) (a more : List ℕ) (one : One big a) where
  one-within : 16 ≤ length a
  one-within = let w = frame-within big a (λ z. one.some (sym one.is ∙ z)) in omega (arith, w.0, one.is)

  one_number : 16 + number_in big a 8 ≡ length a
  unfolding frame_bytes
  one_number = go (ltb (length a) (16 + number_in big a 8)) one.is
    where
      go : (t : Bool) → cond t 0 (16 + number_in big a 8) ≡ length a → 16 + number_in big a 8 ≡ length a
      go true e = absurd (one.some (sym e))
      go false e = e

  one-bytes : frame_bytes big (a ++ more) ≡ length a
  unfolding frame_bytes
  one-bytes =
      rw (
        number-front big a more (omega (arith, one-within)),
        one_number,
        le-ltb (length (a ++ more)) (length a) (rw length-append (omega arith)),
      )
      refl

  one-frame : frame_in (frame_bytes big (a ++ more)) (a ++ more) ≡ frame_in (frame_bytes big a) a
  unfolding frame_in
  one-frame = rw (one-bytes, one.is) (slice_front (length a - 16) 16 a more (omega (arith, one-within)))

  one-behind : drop (frame_bytes big (a ++ more)) (a ++ more) ≡ more
  one-behind = rw one-bytes (drop-append_seam a more)

module _ (f : File) (a more : List ℕ) (one : One f.big a) where
  seen_front : seen_at f (a ++ more) ≡ seen_at f a
  unfolding seen_at
  seen_front = rw (one-frame f.big a more one) refl

  data_front : data_at f (a ++ more) ≡ data_at f a
  unfolding data_at
  data_front = rw (seen_front, one-frame f.big a more one) refl

  some-front : length (a ++ more) ≡ 0 → ⊥
  some-front z = one.some (omega (arith, length-append a more))

  refusals-front : (t : Told) → first (frame_refusals f t (a ++ more)) ≡ first (frame_refusals f t a)
  unfolding frame_refusals
  refusals-front t = rw (seen_front, one-bytes f.big a more one, one.is) refl

unfoldable pub joined : List (List ℕ) → List ℕ
joined [] = []
joined (a ∷ gs) = a ++ joined gs

-- a frame that is passed over, once the card's address is known
pub record Passed (f : File) (card : ℕ) (frame : List ℕ) : Type 0 where
  pub one : One f.big frame
  pub request : requests true card (seen_at f frame) ≡ false
  pub reply : replies true card (seen_at f frame) ≡ false

pub data Noise (f : File) (card : ℕ) : List (List ℕ) → Type 0 where
  none : Noise f card []
  more : {a : List ℕ} {gs : List (List ℕ)} → Passed f card a → Noise f card gs → Noise f card (a ∷ gs)

pub data Whole (f : File) : List (List ℕ) → Type 0 where
  none : Whole f []
  more : {a : List ℕ} {gs : List (List ℕ)} → One f.big a → Whole f gs → Whole f (a ∷ gs)

-- what such frames tell
unfoldable pub told_by : File → Told → List (List ℕ) → Told
told_by f t [] = t
told_by f t (a ∷ gs) = told_by f (with_datagram 0 t (seen_at f a) (data_at f a)) gs

-- behind a frame there is less
shorter : (f : File) (g gs last : List ℕ) (m : ℕ) → One f.big g → length ((g ++ gs) ++ last) ≤ suc m → length (gs ++ last) ≤ m
shorter f g gs last m one p =
    omega (arith, one-within f.big g [] one, length-append (g ++ gs) last, length-append g gs, length-append gs last)

-- a frame that is passed over is not refused
passed_first : (f : File) (s : Told) (a : List ℕ) → s.known ≡ true → Passed f s.card a → first (frame_refusals f s a) ≡ 0
unfolding datagram_refusals first
passed_first f s a known x =
    frame-whole f 0 s a (λ z. x.one.some (sym x.one.is ∙ z)) ∙ rw (known, x.request, x.reply) refl

-- noise in front of other frames
noise_over : (f : File) (m n k j : ℕ) (s t : Told) (noise : List (List ℕ)) (behind : List ℕ) → Noise f s.card noise → s.known ≡ true
    → Alike s t → length (joined noise ++ behind) ≤ m → length behind ≤ n
    → blind (heard_from m f k s (joined noise ++ behind)) ≡ blind (heard_from n f j t behind)
unfolding joined
noise_over f m n k j s t [] behind Noise.none known h p q = alike-heard f m n k j s t behind h p q
noise_over f zero n k j s t (a ∷ gs) behind (Noise.more x xs) known h p q =
    absurd (x.one.some (omega (arith, length-append (a ++ joined gs) behind, length-append a (joined gs))))
noise_over f (suc m) n k j s t (a ∷ gs) behind (Noise.more x xs) known h p q =
    let rest = joined gs ++ behind in
    let e : first (frame_refusals f s (a ++ rest)) ≡ 0 = refusals-front f a rest x.one s ∙ passed_first f s a known x in
    rw (
      append_assoc a (joined gs) behind,
      heard-next f k s (a ++ rest) m (some-front f a rest x.one) e,
      seen_front f a rest x.one,
      data_front f a rest x.one,
      one-behind f.big a rest x.one,
      told-passed k s (seen_at f a) (data_at f a) (rw known x.request) (rw known x.reply),
    )
    (noise_over f m n (k + 1) j s t gs behind xs known h (shorter f a (joined gs) behind m x.one p) q)

-- one frame before others, from tellings that differ in numbers alone
front-next : (f : File) (g : List ℕ) (one : One f.big g) (rest less : List ℕ) (m n k j : ℕ) (s t u : Told) → Alike s u → Alike t u
    → blind (heard_from m f (k + 1) (with_datagram k s (seen_at f g) (data_at f g)) rest)
    ≡ blind (heard_from n f (j + 1) (with_datagram j t (seen_at f g) (data_at f g)) less)
    → blind (heard_from (suc m) f k s (g ++ rest)) ≡ blind (heard_from (suc n) f j t (g ++ less))
unfolding blind
front-next f g one rest less m n k j s t u a b onward = go (eqb (first (frame_refusals f u g)) 0) refl
  where
    left : first (frame_refusals f s (g ++ rest)) ≡ first (frame_refusals f u g)
    left = refusals-front f g rest one s ∙ ap first (refusals-alike f a g)

    right : first (frame_refusals f t (g ++ less)) ≡ first (frame_refusals f u g)
    right = refusals-front f g less one t ∙ ap first (refusals-alike f b g)

    go : (c : Bool) → eqb (first (frame_refusals f u g)) 0 ≡ c
        → blind (heard_from (suc m) f k s (g ++ rest)) ≡ blind (heard_from (suc n) f j t (g ++ less))
    go true e =
        let z = eqb-true _ 0 e in
        rw (
          heard-next f k s (g ++ rest) m (some-front f g rest one) (left ∙ z),
          heard-next f j t (g ++ less) n (some-front f g less one) (right ∙ z),
          seen_front f g rest one,
          data_front f g rest one,
          one-behind f.big g rest one,
          seen_front f g less one,
          data_front f g less one,
          one-behind f.big g less one,
        )
        onward
    go false e =
        let bad = eqb-false _ 0 e in
        rw (
          heard-refused f k s (g ++ rest) m (some-front f g rest one) _ left bad,
          heard-refused f j t (g ++ less) n (some-front f g less one) _ right bad,
        )
        refl

front-over : (f : File) (before noise : List (List ℕ)) (behind : List ℕ) → Whole f before → (m n k j : ℕ) (s t u : Told) → Alike s u
    → Alike t u → (told_by f u before).known ≡ true → Noise f (told_by f u before).card noise
    → length (joined before ++ (joined noise ++ behind)) ≤ m → length (joined before ++ behind) ≤ n
    → blind (heard_from m f k s (joined before ++ (joined noise ++ behind))) ≡ blind (heard_from n f j t (joined before ++ behind))
unfolding joined told_by
front-over f [] noise behind Whole.none m n k j s t u a b known x p q =
    let c : Alike s t = record { known = a.known ∙ sym b.known; card = a.card ∙ sym b.card; exchanges = a.exchanges ∙ sym b.exchanges } in
    noise_over f m n k j s t noise behind (rw a.card x) (a.known ∙ known) c p q
front-over f (g ∷ gs) noise behind (Whole.more one w) zero n k j s t u a b known x p q =
    let rest = joined noise ++ behind in
    absurd (one.some (omega (arith, length-append (g ++ joined gs) rest, length-append g (joined gs))))
front-over f (g ∷ gs) noise behind (Whole.more one w) (suc m) zero k j s t u a b known x p q =
    absurd (one.some (omega (arith, length-append (g ++ joined gs) behind, length-append g (joined gs))))
front-over f (g ∷ gs) noise behind (Whole.more one w) (suc m) (suc n) k j s t u a b known x p q =
    rw (append_assoc g (joined gs) (joined noise ++ behind), append_assoc g (joined gs) behind)
    (front-next f g one (joined gs ++ (joined noise ++ behind)) (joined gs ++ behind) m n k j s t u a b
    (front-over f gs noise behind w m n (k + 1) (j + 1) _ _ _ (with_alike k 0 a (seen_at f g) (data_at f g)) (with_alike j 0 b (seen_at f g) (data_at f g))
    known
    x
    (shorter f g (joined gs) (joined noise ++ behind) m one p)
    (shorter f g (joined gs) behind n one q)))

-- Whole frames, among them the first request; then frames that are passed over; then anything. Without those that are passed over the
-- same is heard, but for the frames' numbers.
pub passed_over : (f : File) (before noise : List (List ℕ)) (behind : List ℕ) → Whole f before → (told_by f nothing_told before).known ≡ true
    → Noise f (told_by f nothing_told before).card noise
    → blind (heard f (joined before ++ (joined noise ++ behind))) ≡ blind (heard f (joined before ++ behind))
unfolding heard
passed_over f before noise behind w known x =
    let self : Alike nothing_told nothing_told = record { known = refl; card = refl; exchanges = refl } in
    front-over f before noise behind w _ _ 1 1 nothing_told nothing_told nothing_told self self known x (le_refl _) (le_refl _)
