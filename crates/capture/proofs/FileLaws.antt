-- A file and a frame's datagram, from the numbers and tests that the code finds.
use Prim.Native.Nat.{ℕ, ◌+◌, ◌-◌, ◌/◌, ◌%◌, ◌≤◌, ◌<◌}
use mathlib.Core.Path.{◌≡◌, refl}
use mathlib.Core.List.{List}
use mathlib.Core.Bool.{Bool, true, false, ◌||◌, ◌&&◌, cond}
use lib.ListN.{length}
use lib.Dec.{leb, eqb}
use borrow.Author.Tests.{lt-ltb, le-ltb}
use Rattle.capture.specs.File.{byte_at, pair_at, quad_at, number_in, is_magic, is_link, link_in, file_of, frame_bytes}
use Rattle.capture.specs.Datagram.{type_at, ip_at, says_iPv4, header_bytes, fragment_at, is_seen, length_at, is_whole, datagram_in}

pub file-read : (s : List ℕ) (m : ℕ) (big : Bool) (n : ℕ) (little : Bool) (link : ℕ) (known : Bool) → m ≡ number_in true s 0 → big ≡ is_magic m
    → n ≡ number_in false s 0 → little ≡ is_magic n → link ≡ number_in big s 20 → known ≡ is_link (link % 65536)
    → record { good = leb 24 (length s) && (big || little) && known; big = big; link = link % 65536 } ≡ file_of s
unfolding file_of link_in
file-read s m big n little link known a b c d e f = rw (f, e, d, c, b, a) refl

module _ (big : Bool) (rest : List ℕ) (n : ℕ) (e : n ≡ number_in big rest 8) where
  pub frame-short : length rest < 16 + n → 0 ≡ frame_bytes big rest
  unfolding frame_bytes
  frame-short h = rw (← e, lt-ltb _ _ h) refl

  pub frame-long : 16 + n ≤ length rest → 16 + n ≡ frame_bytes big rest
  unfolding frame_bytes
  frame-long h = rw (← e, le-ltb _ _ h) refl

pub ip-read : (link : ℕ) (frame : List ℕ) (t q r s v : ℕ) → q ≡ cond (eqb link 276) 20 0 → r ≡ cond (eqb link 113) 16 q → t ≡ type_at frame
    → s ≡ cond (eqb link 1) (t + 2) r → v ≡ cond (eqb link 0) 4 s → v ≡ ip_at link frame
unfolding ip_at
ip-read link frame t q r s v a b c d e = rw (e, d, c, b, a) refl

pub says-read : (big : Bool) (link : ℕ) (frame : List ℕ) (t family type old new : ℕ) → t ≡ type_at frame → family ≡ number_in big frame 0
    → type ≡ pair_at frame t → old ≡ pair_at frame 14 → new ≡ pair_at frame 0
    → (eqb link 0 && eqb family 2 || eqb link 1 && eqb type 0x0800 || eqb link 113 && eqb old 0x0800 || eqb link 276 && eqb new 0x0800
    || eqb link 12
    || eqb link 101
    || eqb link 228)
    ≡ says_iPv4 big link frame
unfolding says_iPv4
says-read big link frame t family type old new a b c d e = rw (e, d, c, b, a) refl

module _ (frame : List ℕ) (ip header : ℕ) (h : header ≡ header_bytes frame ip) where
  pub seen_read : (first protocol fragment : ℕ) → first ≡ byte_at frame ip → protocol ≡ byte_at frame (ip + 9)
      → fragment ≡ pair_at frame (ip + 6)
      → (eqb (first / 16) 4 && leb 5 (first % 16) && eqb protocol 17 && eqb (fragment % 8192) 0 && leb (ip + header + 4) (length frame))
      ≡ is_seen frame ip
  unfolding is_seen fragment_at
  seen_read first protocol fragment a b c = rw (a, b, c, h) refl

  pub whole-read : (n fragment total : ℕ) → n ≡ length_at frame ip → fragment ≡ pair_at frame (ip + 6) → total ≡ pair_at frame (ip + 2)
      → (eqb (fragment / 8192 % 2) 0 && leb 8 n && eqb total (header + n) && leb (ip + header + n) (length frame)) ≡ is_whole frame ip
  unfolding is_whole fragment_at
  whole-read n fragment total a b c = rw (a, b, c, h) refl

pub datagram_read : (big : Bool) (link : ℕ) (frame : List ℕ) (ip header : ℕ) (says seen whole : Bool) (source destination from to n bytes : ℕ)
    → ip ≡ ip_at link frame → header ≡ header_bytes frame ip → says ≡ says_iPv4 big link frame → seen ≡ is_seen frame ip
    → whole ≡ is_whole frame ip → source ≡ quad_at frame (ip + 12) → destination ≡ quad_at frame (ip + 16)
    → from ≡ pair_at frame (ip + header) → to ≡ pair_at frame (ip + header + 2) → n ≡ length_at frame ip → bytes ≡ n - 8
    → record {
      seen = says && seen;
      whole = whole;
      source = source;
      destination = destination;
      source_port = from;
      destination_port = to;
      at = ip + header + 8;
      bytes = bytes;
    }
    ≡ datagram_in big link frame
unfolding datagram_in
datagram_read big link frame ip header says seen whole source destination from to n bytes a b c d e f g h i j k =
    rw (k, j, i, h, g, f, e, d, c, b, a) refl
