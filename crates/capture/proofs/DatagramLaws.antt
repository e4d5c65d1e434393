-- Laws of frames and of the datagrams in them.
use Prim.Native.Nat.{ℕ, ◌+◌, ◌-◌, ◌/◌, ◌%◌, ◌≤◌}
use mathlib.Core.Path.{◌≡◌, refl}
use mathlib.Core.List.{List}
use mathlib.Core.Bool.{Bool, true, false, ◌&&◌, cond}
use native.Mathlib.Omega.{arith}
use lib.ListN.{length, drop, length-drop}
use lib.Seq.{length-take-le}
use lib.Dec.{leb, eqb, ltb}
use borrow.Author.Tests.{ltb-false, leb-true}
use Rattle.lbp16.proofs.BoolLaws.{and_true}
use Rattle.capture.specs.File.{pair_at, number_in, frame_bytes, frame_in}
use Rattle.capture.specs.Datagram.{type_at, ip_at, header_bytes, fragment_at, length_at, is_whole, datagram_in, data_of}
use Rattle.capture.specs.declared.datagram.Datagram.{Datagram}

-- no link header has more than 20 bytes
pub ip-within : (link : ℕ) (frame : List ℕ) → ip_at link frame ≤ 20
unfolding ip_at type_at
ip-within link frame = go (eqb link 0) (eqb link 1) (eqb (pair_at frame 12) 0x8100) (eqb link 113) (eqb link 276)
  where
    go : (a b c d e : Bool) → cond a 4 (cond b (cond c 16 12 + 2) (cond d 16 (cond e 20 0))) ≤ 20
    go true b c d e = omega arith
    go false true true d e = omega arith
    go false true false d e = omega arith
    go false false c true e = omega arith
    go false false c false true = omega arith
    go false false c false false = omega arith

-- A frame that is not cut has its header, and stands within the bytes.
pub frame-within : (big : Bool) (rest : List ℕ) → (frame_bytes big rest ≡ 0 → ⊥)
    → (16 ≤ frame_bytes big rest) × (frame_bytes big rest ≤ length rest)
unfolding frame_bytes
frame-within big rest h = go (ltb (length rest) (16 + number_in big rest 8)) refl h
  where
    go : (t : Bool) → ltb (length rest) (16 + number_in big rest 8) ≡ t → (cond t 0 (16 + number_in big rest 8) ≡ 0 → ⊥)
        → (16 ≤ cond t 0 (16 + number_in big rest 8)) × (cond t 0 (16 + number_in big rest 8) ≤ length rest)
    go true e n = absurd (n refl)
    go false e n = (omega arith, ltb-false _ _ e)

-- a frame's captured bytes are those behind its header
pub frame-bytes : (n : ℕ) (rest : List ℕ) → n ≤ length rest → length (frame_in n rest) ≡ n - 16
unfolding frame_in
frame-bytes n rest h = length-take-le (n - 16) (drop 16 rest) (rw length-drop (omega arith))

-- The data of a whole datagram stand within the frame, behind a UDP header.
pub record Within (d : Datagram) (frame : List ℕ) : Type 0 where
  pub front : 8 ≤ d.at
  pub end : d.at + d.bytes ≤ length frame

pub whole-within : (big : Bool) (link : ℕ) (frame : List ℕ) → (datagram_in big link frame).whole ≡ true → Within (datagram_in big link frame) frame
unfolding datagram_in is_whole
whole-within big link frame e =
    let ip = ip_at link frame in
    let one = eqb (fragment_at frame ip / 8192 % 2) 0 in
    let long = leb 8 (length_at frame ip) in
    let same = eqb (pair_at frame (ip + 2)) (header_bytes frame ip + length_at frame ip) in
    let end = leb (ip + header_bytes frame ip + length_at frame ip) (length frame) in
    let (front, last) = and_true (one && long && same) end e in
    let (short, third) = and_true (one && long) same front in
    let m = leb-true 8 (length_at frame ip) (and_true one long short).1 in
    let n = leb-true (ip + header_bytes frame ip + length_at frame ip) (length frame) last in
    record { front = omega arith; end = omega arith }

pub data_length : (d : Datagram) (frame : List ℕ) → Within d frame → length (data_of d frame) ≡ d.bytes
unfolding data_of
data_length d frame w = length-take-le d.bytes (drop d.at frame) (rw length-drop (omega (arith, w.end)))
