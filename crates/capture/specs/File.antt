-- The file: classic pcap. A header of 24 bytes, then frames, each behind a header of 16 bytes.
use Rattle.std.specs.Prelude.{ℕ, ◌+◌, ◌*◌, ◌-◌, ◌%◌, List, Bool, true, false, ◌||◌, ◌&&◌, cond, length, take, drop, get_or, leb, ltb, eqb}
use Rattle.capture.specs.declared.file.File.{File as Read}

-- Whether a capture is read here, whether its numbers have the high byte first, and its link type.
pub record File : Type 0 where
  pub good : Bool
  pub big : Bool
  pub link : ℕ

-- a capture that the code reads
abbrev pub file_listed : Read → File
file_listed f = record { good = true; big = f.big; link = f.link }

-- a byte that is not there counts as 0
unfoldable pub byte_at : List ℕ → ℕ → ℕ
byte_at s at = get_or s at 0

-- numbers of two and of four bytes, high byte first
unfoldable pub pair_at : List ℕ → ℕ → ℕ
pair_at s at = 256 * byte_at s at + byte_at s (at + 1)

unfoldable pub quad_at : List ℕ → ℕ → ℕ
quad_at s at = 65536 * pair_at s at + pair_at s (at + 2)

-- four bytes, low byte first
unfoldable pub low_quad_at : List ℕ → ℕ → ℕ
low_quad_at s at = byte_at s at + 256 * (byte_at s (at + 1) + 256 * (byte_at s (at + 2) + 256 * byte_at s (at + 3)))

-- A number of the file itself: high byte first if the file is `big`.
unfoldable pub number_in : Bool → List ℕ → ℕ → ℕ
number_in big s at = cond big (quad_at s at) (low_quad_at s at)

-- times in microseconds, and in nanoseconds
unfoldable pub is_magic : ℕ → Bool
is_magic n = eqb n 0xA1B2C3D4 || eqb n 0xA1B23C4D

-- the link types that are read: null, Ethernet, three kinds of raw, two of Linux cooked
unfoldable pub is_link : ℕ → Bool
is_link n = eqb n 0 || eqb n 1 || eqb n 12 || eqb n 101 || eqb n 228 || eqb n 113 || eqb n 276

-- the link type: the low sixteen bits of the number at 20
unfoldable pub link_in : Bool → List ℕ → ℕ
link_in big s = number_in big s 20 % 65536

-- Whether a capture is read here, its byte order and its link type.
unfoldable pub file_of : List ℕ → File
file_of s =
    let big = is_magic (number_in true s 0) in
    record {
      good = leb 24 (length s) && (big || is_magic (number_in false s 0)) && is_link (link_in big s);
      big = big;
      link = link_in big s;
    }

-- The bytes of the frame at the front, its header included: the number at 8 says how many were captured. 0 if there are
-- fewer bytes than the header has, or than it says.
unfoldable pub frame_bytes : Bool → List ℕ → ℕ
frame_bytes big rest = let n = 16 + number_in big rest 8 in cond (ltb (length rest) n) 0 n

-- the captured bytes of a frame of n bytes at the front
unfoldable pub frame_in : ℕ → List ℕ → List ℕ
frame_in n rest = take (n - 16) (drop 16 rest)
