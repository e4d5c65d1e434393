-- The frames from one on: how a turn goes, that what is told only grows, and the numbers of refusals.
use Prim.Native.Nat.{ℕ, zero, suc, ◌+◌, ◌≤◌}
use mathlib.Core.Path.{◌≡◌, refl, sym, ◌∙◌}
use mathlib.Core.List.{List}
use mathlib.Core.Bool.{Bool, true, false, cond}
use native.Mathlib.Omega.{arith}
use lib.ListN.{length, drop}
use lib.Dec.{eqb}
use borrow.Author.Tests.{eqb-true, eqb-false, eq-eqb, ne_eqb}
use Rattle.packet.specs.Rules.{first}
use Rattle.packet.proofs.RuleLaws.{first_holds, first-within}
use Rattle.capture.specs.File.{frame_bytes}
use Rattle.capture.specs.Capture.{Exchange, Told, is_waiting, datagram_refusals, seen_at, data_at, frame_refusals, with_datagram}
use Rattle.capture.specs.Capture.{Heard, refused, exchanges, heard_from}
use Rattle.capture.specs.File.{File}
use Rattle.capture.proofs.TurnLaws.{cases, Grows, grows_self, grown}

module _ (f : File) (k : ℕ) (t : Told) (rest : List ℕ) where
  -- what is told with the frame at the front
  abbrev pub next : Told
  next = with_datagram k t (seen_at f rest) (data_at f rest)

  pub heard-end : (fuel : ℕ) → length rest ≡ 0 → heard_from fuel f k t rest ≡ exchanges t.exchanges
  unfolding heard_from
  heard-end zero e = refl
  heard-end (suc fuel) e = rw (eq-eqb _ _ e) refl

  module _ (fuel : ℕ) (some : length rest ≡ 0 → ⊥) where
    pub heard-refused : (n : ℕ) → first (frame_refusals f t rest) ≡ n → (n ≡ 0 → ⊥) → heard_from (suc fuel) f k t rest ≡ refused n k
    unfolding heard_from
    heard-refused n e h = rw (ne_eqb (length rest) 0 some, e, ne_eqb n 0 h) refl

    pub heard-next : first (frame_refusals f t rest) ≡ 0
        → heard_from (suc fuel) f k t rest ≡ heard_from fuel f (k + 1) next (drop (frame_bytes f.big rest) rest)
    unfolding heard_from
    heard-next e = rw (ne_eqb (length rest) 0 some, eq-eqb _ _ e) refl

  -- the rules of a frame that is cut, and of one that is not
  pub frame-cut : frame_bytes f.big rest ≡ 0 → first (frame_refusals f t rest) ≡ 92
  unfolding frame_refusals first
  frame-cut e = rw (eq-eqb _ _ e) refl

  pub frame-whole : (frame_bytes f.big rest ≡ 0 → ⊥)
      → first (frame_refusals f t rest) ≡ first (datagram_refusals t.known t.card (is_waiting t.exchanges) (seen_at f rest))
  unfolding frame_refusals first
  frame-whole h = rw (ne_eqb _ _ h) refl

-- What holds at the end, of a refusal and behind a frame that is not refused holds from every frame on.
module _ (f : File) (P : ℕ → Told → List ℕ → Heard → Type 0)
    (end : (k : ℕ) (t : Told) (rest : List ℕ) → P k t rest (exchanges t.exchanges))
    (stop : (k n : ℕ) (t : Told) (rest : List ℕ) → first (frame_refusals f t rest) ≡ n → (n ≡ 0 → ⊥) → P k t rest (refused n k))
    (turn : (k : ℕ) (t : Told) (rest : List ℕ) (h : Heard) → first (frame_refusals f t rest) ≡ 0
    → P (k + 1) (next f k t rest) (drop (frame_bytes f.big rest) rest) h → P k t rest h) where
  pub by_frames : (fuel k : ℕ) (t : Told) (rest : List ℕ) → P k t rest (heard_from fuel f k t rest)
  unfolding heard_from
  by_frames zero k t rest = end k t rest
  by_frames (suc fuel) k t rest =
      go (eqb (length rest) 0) (eqb (first (frame_refusals f t rest)) 0) refl
      (by_frames fuel (k + 1) (next f k t rest) (drop (frame_bytes f.big rest) rest))
    where
      go : (a b : Bool) → eqb (first (frame_refusals f t rest)) 0 ≡ b
          → P (k + 1) (next f k t rest) (drop (frame_bytes f.big rest) rest)
          (heard_from fuel f (k + 1) (next f k t rest) (drop (frame_bytes f.big rest) rest))
          → P k t rest
          (cond a (exchanges t.exchanges)
          (cond b (heard_from fuel f (k + 1) (next f k t rest) (drop (frame_bytes f.big rest) rest))
          (refused (first (frame_refusals f t rest)) k)))
      go true b e more = end k t rest
      go false true e more = turn k t rest _ (eqb-true _ _ e) more
      go false false e more = stop k _ t rest refl (eqb-false _ _ e)

-- a frame that is not refused is not cut
pub not_cut : (f : File) (t : Told) (rest : List ℕ) → first (frame_refusals f t rest) ≡ 0 → frame_bytes f.big rest ≡ 0 → ⊥
not_cut f t rest e z = let q = frame-cut f 0 t rest z in omega arith

-- What is told at the end has grown from what is told here.
pub grows : (f : File) (fuel k : ℕ) (t : Told) (rest : List ℕ) (ys : List Exchange) → heard_from fuel f k t rest ≡ exchanges ys
    → Grows t.exchanges ys
grows f =
    by_frames f (λ k t rest h. (ys : List Exchange) → h ≡ exchanges ys → Grows t.exchanges ys)
    (λ k t rest ys e. let q : t.exchanges ≡ ys = cc in rw q (grows_self ys))
    (λ k n t rest e h ys q. let z : ◌≡◌ {A = ℕ} 0 1 = cc in absurd (omega arith))
    (λ k t rest h e more ys q.
    let g = grown k t (seen_at f rest) (data_at f rest) (cases t (seen_at f rest) (sym (frame-whole f k t rest (not_cut f t rest e)) ∙ e)) in
    let m = more ys q in
    record { bytes = omega (arith, g.bytes, m.bytes); packets = omega (arith, g.packets, m.packets) })

-- Every refusal of a frame is 92, 93 or 94.
pub refused-numbers : (f : File) (fuel k : ℕ) (t : Told) (rest : List ℕ) (n j : ℕ) → heard_from fuel f k t rest ≡ refused n j
    → (92 ≤ n) × (n ≤ 94)
unfolding frame_refusals datagram_refusals
refused-numbers f =
    by_frames f (λ k t rest h. (n j : ℕ) → h ≡ refused n j → (92 ≤ n) × (n ≤ 94))
    (λ k t rest n j e. let z : ◌≡◌ {A = ℕ} 0 1 = cc in absurd (omega arith))
    (λ k m t rest e h n j q.
    let same : m ≡ n = cc in
    let w =
    first-within 91 94 (first_holds m (frame_refusals f t rest) e h)
    (omega arith, omega arith, (omega arith, omega arith, (omega arith, omega arith, tt))) in
    omega arith)
    (λ k t rest h e more n j q. more n j q)
