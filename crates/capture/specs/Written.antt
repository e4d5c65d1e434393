-- A capture as it is written of datagrams in turn, and what is promised of reading it.
use Rattle.std.specs.Prelude.{ℕ, ◌+◌, ◌^◌, ◌/◌, ◌%◌, ◌≤◌, ◌<◌, ◌≡◌, List, [], ◌∷◌, ◌++◌, Bool, cond, length, drop, replicate}
use Rattle.lbp16.specs.Answer.{Answer}
use Rattle.packet.specs.Bytes.{bytes_of}
use Rattle.cue.specs.Output.{output_of}
use Rattle.capture.specs.Capture.{card_port, Captured}

-- the lowest two and four bytes of a number, high byte first
unfoldable pub bytes_of_pair : ℕ → List ℕ
bytes_of_pair n = n / 256 % 256 ∷ n % 256 ∷ []

unfoldable pub bytes_of_quad : ℕ → List ℕ
bytes_of_quad n = n / 16777216 % 256 ∷ n / 65536 % 256 ∷ n / 256 % 256 ∷ n % 256 ∷ []

-- a number of the file itself
unfoldable pub bytes_in : Bool → ℕ → List ℕ
bytes_in big n = cond big (bytes_of_quad n) (bytes_of 4 n)

-- The link types.
pub data Link : Type 0 where
  null : Link
  ethernet : Link
  raw12 : Link
  raw101 : Link
  raw228 : Link
  cooked113 : Link
  cooked276 : Link

unfoldable pub link_number : Link → ℕ
link_number null = 0
link_number ethernet = 1
link_number raw12 = 12
link_number raw101 = 101
link_number raw228 = 228
link_number cooked113 = 113
link_number cooked276 = 276

-- the header before an IPv4 packet
unfoldable pub link_header : Bool → Link → List ℕ
link_header big null = bytes_in big 2
link_header big ethernet = replicate 12 0 ++ (8 ∷ 0 ∷ [])
link_header big raw12 = []
link_header big raw101 = []
link_header big raw228 = []
link_header big cooked113 = replicate 14 0 ++ (8 ∷ 0 ∷ [])
link_header big cooked276 = 8 ∷ 0 ∷ replicate 18 0

-- What a capture is written with: byte order and times of its file, link type, the card's address, and address and port of the other end.
pub record Chosen : Type 0 where
  pub big : Bool
  pub nano : Bool
  pub link : Link
  pub card : ℕ
  pub other : ℕ
  pub port : ℕ

pub record Sound (c : Chosen) : Type 0 where
  pub card : c.card < 4294967296
  pub other : c.other < 4294967296
  pub port : c.port < 65536
  pub apart : c.other ≡ c.card → c.port ≡ card_port → ⊥

-- the file's header: magic, version 2.4, zone and accuracy, snap length and link type
unfoldable pub header_front : Bool → Bool → List ℕ
header_front big nano =
    bytes_in big (cond nano 0xA1B23C4D 0xA1B2C3D4)
    ++ cond big (0 ∷ 2 ∷ 0 ∷ 4 ∷ []) (2 ∷ 0 ∷ 4 ∷ 0 ∷ [])
    ++ (0 ∷ 0 ∷ 0 ∷ 0 ∷ 0 ∷ 0 ∷ 0 ∷ 0 ∷ [])
    ++ bytes_in big 65535

unfoldable pub file_header : Bool → Bool → Link → List ℕ
file_header big nano link = header_front big nano ++ bytes_in big (link_number link)

-- an IPv4 packet with a UDP datagram, without checksums
unfoldable pub datagram_of : ℕ → ℕ → ℕ → ℕ → List ℕ → List ℕ
datagram_of source destination sourcePort destinationPort bytes =
    (0x45 ∷ 0 ∷ [])
    ++ bytes_of_pair (28 + length bytes)
    ++ (0 ∷ 0 ∷ 0 ∷ 0 ∷ 64 ∷ 17 ∷ 0 ∷ 0 ∷ [])
    ++ bytes_of_quad source
    ++ bytes_of_quad destination
    ++ bytes_of_pair sourcePort
    ++ bytes_of_pair destinationPort
    ++ bytes_of_pair (8 + length bytes)
    ++ (0 ∷ 0 ∷ [])
    ++ bytes

-- a frame: its time, how many bytes were captured and how many there were
unfoldable pub frame_written : Bool → List ℕ → List ℕ
frame_written big bytes = (0 ∷ 0 ∷ 0 ∷ 0 ∷ 0 ∷ 0 ∷ 0 ∷ 0 ∷ []) ++ bytes_in big (length bytes) ++ bytes_in big (length bytes) ++ bytes

unfoldable pub request_frame : Chosen → List ℕ → List ℕ
request_frame c packet = frame_written c.big (link_header c.big c.link ++ datagram_of c.other c.card c.port card_port packet)

unfoldable pub reply_frame : Chosen → List ℕ → List ℕ
reply_frame c reply = frame_written c.big (link_header c.big c.link ++ datagram_of c.card c.other card_port c.port reply)

-- What is sent: a packet, and a reply if one comes back.
pub data Sent : Type 0 where
  alone : List ℕ → Sent
  both : List ℕ → List ℕ → Sent

unfoldable pub frames_written : Chosen → List Sent → List ℕ
frames_written c [] = []
frames_written c (alone packet ∷ more) = request_frame c packet ++ frames_written c more
frames_written c (both packet reply ∷ more) = request_frame c packet ++ (reply_frame c reply ++ frames_written c more)

unfoldable pub capture_of : Chosen → List Sent → List ℕ
capture_of c show = file_header c.big c.nano c.link ++ frames_written c show

-- each of at most the 65,507 bytes that IPv4 has room for
pub data Short : List Sent → Type 0 where
  none : Short []
  one : {packet : List ℕ} {more : List Sent} → length packet ≤ 65507 → Short more → Short (alone packet ∷ more)
  two : {packet reply : List ℕ} {more : List Sent} → length packet ≤ 65507 → length reply ≤ 65507 → Short more
      → Short (both packet reply ∷ more)

-- the recording of what is sent: packets and replies in turn; a missing reply has no bytes
unfoldable pub parts_of : List Sent → List (List ℕ)
parts_of [] = []
parts_of (alone packet ∷ more) = packet ∷ [] ∷ parts_of more
parts_of (both packet reply ∷ more) = packet ∷ reply ∷ parts_of more

unfoldable pub recording_sent : List Sent → List ℕ
recording_sent show = output_of (parts_of show)

-- the frames of its packets, in 32 bits, the first in frame k
unfoldable pub frames_sent : ℕ → List Sent → List ℕ
frames_sent k [] = []
frames_sent k (alone packet ∷ more) = k % 2 ^ 32 ∷ frames_sent (k + 1) more
frames_sent k (both packet reply ∷ more) = k % 2 ^ 32 ∷ frames_sent (k + 1 + 1) more

-- what comes of it
unfoldable pub read_back : List Sent → List ℕ → List ℕ → Captured
read_back show room frames =
    record {
      answer = Answer.accepted (length (recording_sent show) ∷ length show ∷ []);
      room = recording_sent show ++ drop (length (recording_sent show)) room;
      frames = frames_sent 1 show ++ drop (length (frames_sent 1 show)) frames;
    }

-- A capture that was written of this show, with room for all that comes of it.
pub record WrittenOf (show : List Sent) (capture room frames : List ℕ) : Type 0 where
  pub chosen : Chosen
  pub sound : Sound chosen
  pub short : Short show
  pub same : capture ≡ capture_of chosen show
  pub bytes : length (recording_sent show) ≤ length room
  pub packets : length show ≤ length frames

-- A capture written of datagrams in turn is accepted, and gives their recording and the packets' frames back.
unfoldable pub SameRecording : List ℕ → List ℕ → List ℕ → Captured → Type 0
SameRecording capture room frames left = (show : List Sent) → WrittenOf show capture room frames → left ≡ read_back show room frames
