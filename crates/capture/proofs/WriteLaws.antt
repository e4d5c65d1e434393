-- What the second walk writes.
use Prim.Native.Nat.{ℕ, suc, ◌+◌, ◌-◌, ◌^◌, ◌/◌, ◌%◌, ◌≤◌, ◌<◌}
use mathlib.Core.Path.{◌≡◌, refl, ap, ◌∙◌}
use mathlib.Core.List.{List, [], ◌∷◌, ◌++◌, append_assoc}
use native.Mathlib.Omega.{arith}
use mathlib.Core.Bool.{Bool, true, false, ◌&&◌}
use lib.ListN.{length, take, drop, set, length-append, length-drop}
use lib.Seq.{sets, sets-eq, length-take-le, take-append_seam, drop-append-add, drop-drop}
use Rattle.lbp16.proofs.BoolLaws.{and_true}
use Rattle.lbp16.proofs.ListLaws.{sets_append}
use Rattle.packet.specs.Bytes.{bytes_of}
use Rattle.cue.specs.Output.{frame_mark, framed}
use Rattle.capture.specs.Datagram.{data_of}
use Rattle.capture.specs.Inside.{part_at, part_of, number_part}
use Rattle.capture.specs.declared.datagram.Datagram.{Datagram}
use Rattle.capture.specs.Inside.{Progress}
use Rattle.capture.specs.Inside.{Turn}

-- four bytes, one behind the other
pub head-put : (l : List ℕ) (at n : ℕ) → n < 65536
    → set (set (set (set l at 0x4C) (at + 1) 0x42) (at + 2) (n % 256)) (at + 3) (n / 256)
    ≡ sets l at (bytes_of 2 frame_mark ++ bytes_of 2 n)
unfolding bytes_of
head-put l at n h =
    let q : n / 256 % 256 ≡ n / 256 = omega arith in
    let a : at + 1 ≡ suc at = omega arith in
    let b : at + 2 ≡ suc (suc at) = omega arith in
    let c : at + 3 ≡ suc (suc (suc at)) = omega arith in
    rw (q, a, b, c) refl

-- mark and length, then the bytes of a frame
pub framed-put : (l frame : List ℕ) (at from n : ℕ) → from + n ≤ length frame
    → sets (sets l at (bytes_of 2 frame_mark ++ bytes_of 2 n)) (at + 4) (take n (drop from frame)) ≡ sets l at (framed (take n (drop from frame)))
unfolding framed bytes_of
framed-put l frame at from n h =
    let e : length (take n (drop from frame)) ≡ n = length-take-le n (drop from frame) (rw length-drop (omega arith)) in
    rw e (sets_append l at (bytes_of 2 frame_mark ++ bytes_of 2 n) (take n (drop from frame)))

-- and behind them the frame of an empty reply
pub request-put : (l frame : List ℕ) (at from n : ℕ) → from + n ≤ length frame
    → sets (sets l at (framed (take n (drop from frame)))) (at + 4 + n) (bytes_of 2 frame_mark ++ bytes_of 2 0)
    ≡ sets l at (framed (take n (drop from frame)) ++ framed [])
unfolding framed bytes_of
request-put l frame at from n h =
    let e : length (take n (drop from frame)) ≡ n = length-take-le n (drop from frame) (rw length-drop (omega arith)) in
    let f : at + 4 + n ≡ at + length (framed (take n (drop from frame))) = omega arith in
    rw f (sets_append l at (framed (take n (drop from frame))) (framed []))

-- what a datagram adds, by what it is
module _ (write : Bool) (p : Progress) (t : Turn) (d : Datagram) (frame : List ℕ) where
  pub part-request : (k : ℕ) → (write && t.request) ≡ true
      → (part_at p t ≡ p.bytes) × (part_of write t d frame ≡ framed (data_of d frame) ++ framed []) × (number_part write t k ≡ k % 2 ^ 32 ∷ [])
  unfolding part_at part_of number_part
  part-request k e = (rw (and_true write t.request e).1 refl, rw e refl, rw e refl)

  pub part-reply : (k : ℕ) → (write && t.request) ≡ false → (write && t.reply) ≡ true
      → (part_at p t ≡ p.bytes - 4) × (part_of write t d frame ≡ framed (data_of d frame)) × (number_part write t k ≡ [])
  unfolding part_at part_of number_part
  part-reply k e g =
      let q : t.request ≡ false = rw (and_true write t.reply g).0 at e in
      (rw q refl, rw (e, g) refl, rw e refl)

pub part_none : (write : Bool) (t : Turn) (d : Datagram) (frame : List ℕ) (k : ℕ) → (write && t.request) ≡ false → (write && t.reply) ≡ false
    → (part_of write t d frame ≡ []) × (number_part write t k ≡ [])
unfolding part_of number_part
part_none write t d frame k e g = (rw (e, g) refl, rw e refl)

over-tail : (old base x : List ℕ) (n : ℕ) → length x ≤ n → drop n (x ++ drop (length (base ++ x)) old) ≡ drop (length base + n) old
over-tail old base x n h =
    let k : n ≡ length x + (n - length x) = omega arith in
    let m : length (base ++ x) + (n - length x) ≡ length base + n = rw length-append (omega arith) in
    ap (λ i. drop i (x ++ drop (length (base ++ x)) old)) k
    ∙ drop-append-add x (drop (length (base ++ x)) old) (n - length x)
    ∙ drop-drop (n - length x) (length (base ++ x)) old
    ∙ ap (λ i. drop i old) m

-- A part put over the end of what stands at a room's front, or behind it.
pub put-over : (old base x part room : List ℕ) (at : ℕ) → room ≡ (base ++ x) ++ drop (length (base ++ x)) old → at ≡ length base
    → length x ≤ length part → length base + length part ≤ length old
    → sets room at part ≡ (base ++ part) ++ drop (length (base ++ part)) old
put-over old base x part room at r e l h =
    let tail = drop (length (base ++ x)) old in
    let n : length tail ≡ length old - (length base + length x) = length-drop (length (base ++ x)) old ∙ rw length-append refl in
    let fits : length base + length part ≤ length (base ++ (x ++ tail)) = rw (length-append, length-append) (omega arith) in
    rw (r, e, append_assoc) (
    sets-eq part (base ++ (x ++ tail)) (length base) fits
    ∙ rw (take-append_seam, drop-append-add, over-tail old base x (length part) l, length-append) refl)
