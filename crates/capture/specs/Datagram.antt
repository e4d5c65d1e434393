-- From a frame to the UDP datagram in it.
use Rattle.std.specs.Prelude.{ℕ, ◌+◌, ◌*◌, ◌-◌, ◌/◌, ◌%◌, List, Bool, ◌||◌, ◌&&◌, cond, length, take, drop, leb, eqb}
use Rattle.capture.specs.File.{byte_at, pair_at, quad_at, number_in}
use Rattle.capture.specs.declared.datagram.Datagram.{Datagram}

-- where an Ethernet frame has its type: behind one tag if there is one
unfoldable pub type_at : List ℕ → ℕ
type_at frame = cond (eqb (pair_at frame 12) 0x8100) 16 12

-- where the IP packet begins
unfoldable pub ip_at : ℕ → List ℕ → ℕ
ip_at link frame = cond (eqb link 0) 4 (cond (eqb link 1) (type_at frame + 2) (cond (eqb link 113) 16 (cond (eqb link 276) 20 0)))

-- Whether the link header says that it is IPv4: by a family of 2 in the file's byte order, by the type 0x0800, or by there being none.
unfoldable pub says_iPv4 : Bool → ℕ → List ℕ → Bool
says_iPv4 big link frame =
    eqb link 0 && eqb (number_in big frame 0) 2
    || eqb link 1 && eqb (pair_at frame (type_at frame)) 0x0800
    || eqb link 113 && eqb (pair_at frame 14) 0x0800
    || eqb link 276 && eqb (pair_at frame 0) 0x0800
    || eqb link 12
    || eqb link 101
    || eqb link 228

-- the IP header's bytes: its length in words is the first byte's lower half
unfoldable pub header_bytes : List ℕ → ℕ → ℕ
header_bytes frame ip = 4 * (byte_at frame ip % 16)

-- the flags, and behind them the fragment's offset in 13 bits
unfoldable pub fragment_at : List ℕ → ℕ → ℕ
fragment_at frame ip = pair_at frame (ip + 6)

-- An IPv4 packet whose UDP ports can be seen: version 4, at least 5 words of header, UDP, no later fragment, and four bytes captured
-- behind the header.
unfoldable pub is_seen : List ℕ → ℕ → Bool
is_seen frame ip =
    eqb (byte_at frame ip / 16) 4
    && leb 5 (byte_at frame ip % 16)
    && eqb (byte_at frame (ip + 9)) 17
    && eqb (fragment_at frame ip % 8192) 0
    && leb (ip + header_bytes frame ip + 4) (length frame)

-- the UDP length
unfoldable pub length_at : List ℕ → ℕ → ℕ
length_at frame ip = pair_at frame (ip + header_bytes frame ip + 4)

-- A datagram that is whole: no more fragments follow, the UDP length is at least 8 and the IP packet's length less its header, and
-- all of it was captured. Padding may stand behind it.
unfoldable pub is_whole : List ℕ → ℕ → Bool
is_whole frame ip =
    eqb (fragment_at frame ip / 8192 % 2) 0
    && leb 8 (length_at frame ip)
    && eqb (pair_at frame (ip + 2)) (header_bytes frame ip + length_at frame ip)
    && leb (ip + header_bytes frame ip + length_at frame ip) (length frame)

-- What a frame's captured bytes hold.
unfoldable pub datagram_in : Bool → ℕ → List ℕ → Datagram
datagram_in big link frame =
    let ip = ip_at link frame in
    let udp = ip + header_bytes frame ip in
    record {
      seen = says_iPv4 big link frame && is_seen frame ip;
      whole = is_whole frame ip;
      source = quad_at frame (ip + 12);
      destination = quad_at frame (ip + 16);
      source_port = pair_at frame udp;
      destination_port = pair_at frame (udp + 2);
      at = udp + 8;
      bytes = length_at frame ip - 8;
    }

-- its data
unfoldable pub data_of : Datagram → List ℕ → List ℕ
data_of d frame = take d.bytes (drop d.at frame)
