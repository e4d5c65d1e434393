-- Captures small enough to be read, with what comes of each.
use Prim.Native.Nat.{ℕ}
use mathlib.Core.Path.{◌≡◌, refl}
use mathlib.Core.List.{List, [], ◌∷◌, ◌++◌}
use mathlib.Core.Bool.{Bool, true}
use lib.ListN.{length, replicate}
use Rattle.lbp16.specs.Answer.{accepted, refused}
use Rattle.packet.specs.Bytes
use Rattle.packet.specs.Bytes.{bytes_of}
use Rattle.packet.specs.Rules
use Rattle.cue.specs.Output
use Rattle.capture.specs.File
use Rattle.capture.specs.Datagram
use Rattle.capture.specs.Capture
use Rattle.capture.specs.Capture.{captured}

-- opens every definition that the examples compute with
all : Bool
unfolding Bytes.bytes_of Rules.first Output.framed File.byte_at File.pair_at File.quad_at File.low_quad_at File.number_in File.is_magic
    File.is_link File.link_in File.file_of File.frame_bytes File.frame_in Datagram.type_at Datagram.ip_at Datagram.says_iPv4
    Datagram.header_bytes Datagram.fragment_at Datagram.is_seen Datagram.length_at Datagram.is_whole Datagram.datagram_in
    Datagram.data_of Capture.nothing_told Capture.requests Capture.replies Capture.is_waiting Capture.datagram_refusals
    Capture.seen_at Capture.data_at Capture.frame_refusals Capture.answer Capture.with_datagram Capture.heard_from Capture.heard
    Capture.bytes_of_exchange Capture.recording_of Capture.frame_number Capture.frames_of Capture.written Capture.captured
all = true

-- a file of raw IP, low byte first, with microseconds
abbrev raw : List ℕ
raw = 0xD4 ∷ 0xC3 ∷ 0xB2 ∷ 0xA1 ∷ 2 ∷ 0 ∷ 4 ∷ 0 ∷ 0 ∷ 0 ∷ 0 ∷ 0 ∷ 0 ∷ 0 ∷ 0 ∷ 0 ∷ 0xFF ∷ 0xFF ∷ 0 ∷ 0 ∷ 101 ∷ 0 ∷ 0 ∷ 0 ∷ []

-- a frame of it
abbrev frame : List ℕ → List ℕ
frame bytes = replicate 8 0 ++ bytes_of 4 (length bytes) ++ bytes_of 4 (length bytes) ++ bytes

-- AA BB from 10.0.0.1, port 50,000, to the card at 10.0.0.2; CC back
abbrev ask : List ℕ
ask =
    0x45 ∷ 0 ∷ 0 ∷ 30 ∷ 0 ∷ 0 ∷ 0 ∷ 0 ∷ 64 ∷ 17 ∷ 0 ∷ 0 ∷ 10 ∷ 0 ∷ 0 ∷ 1 ∷ 10 ∷ 0 ∷ 0 ∷ 2 ∷ 0xC3 ∷ 0x50 ∷ 0x6A ∷ 0x2D ∷ 0 ∷ 10 ∷ 0 ∷ 0 ∷ 0xAA ∷ 0xBB ∷ []

abbrev reply : List ℕ
reply =
    0x45 ∷ 0 ∷ 0 ∷ 29 ∷ 0 ∷ 0 ∷ 0 ∷ 0 ∷ 64 ∷ 17 ∷ 0 ∷ 0 ∷ 10 ∷ 0 ∷ 0 ∷ 2 ∷ 10 ∷ 0 ∷ 0 ∷ 1 ∷ 0x6A ∷ 0x2D ∷ 0xC3 ∷ 0x50 ∷ 0 ∷ 9 ∷ 0 ∷ 0 ∷ 0xCC ∷ []

-- their frames in a recording
abbrev asked : List ℕ
asked = 0x4C ∷ 0x42 ∷ 2 ∷ 0 ∷ 0xAA ∷ 0xBB ∷ []

abbrev replied : List ℕ
replied = 0x4C ∷ 0x42 ∷ 1 ∷ 0 ∷ 0xCC ∷ []

abbrev silence : List ℕ
silence = 0x4C ∷ 0x42 ∷ 0 ∷ 0 ∷ []

-- a request and its reply; room beyond is unchanged
pub one : captured (raw ++ frame ask ++ frame reply) (replicate 12 0xEE) (9 ∷ 9 ∷ [])
    ≡ record { answer = accepted (11 ∷ 1 ∷ []); room = asked ++ replied ++ (0xEE ∷ []); frames = 1 ∷ 9 ∷ [] }
unfolding all
one = refl

-- A reply belongs to the request before it; the one before that has none. A datagram from the card before the first request is passed
-- over, and so is padding.
pub late : captured (raw ++ frame reply ++ frame ask ++ frame (ask ++ (7 ∷ 7 ∷ [])) ++ frame reply) (replicate 21 0xEE) (9 ∷ 9 ∷ [])
    ≡ record { answer = accepted (21 ∷ 2 ∷ []); room = asked ++ silence ++ asked ++ replied; frames = 2 ∷ 3 ∷ [] }
unfolding all
late = refl

-- no file, a frame cut, a datagram with bytes that were not captured, a second reply
pub refusals : ((captured [] [] []).answer ≡ refused 91 0) × ((captured (raw ++ frame ask ++ (0 ∷ [])) [] []).answer ≡ refused 92 2)
    × ((captured (raw ++ frame (0x45 ∷ 0 ∷ 0 ∷ 30 ∷ 0 ∷ 0 ∷ 0x20 ∷ 0 ∷ 64 ∷ 17 ∷ replicate 12 0 ++ (0x6A ∷ 0x2D ∷ []))) [] []).answer ≡ refused 93 1)
    × ((captured (raw ++ frame ask ++ frame reply ++ frame reply) [] []).answer ≡ refused 94 3)
unfolding all
refusals = (refl, refl, refl, refl)

-- room for one byte too few, then for no packet
pub rooms : (captured (raw ++ frame ask ++ frame reply) (replicate 10 0xEE) []
    ≡ record { answer = refused 26 11; room = replicate 10 0xEE; frames = [] })
    × (captured (raw ++ frame ask ++ frame reply) (replicate 11 0xEE) []
    ≡ record { answer = refused 27 1; room = replicate 11 0xEE; frames = [] })
unfolding all
rooms = (refl, refl)

-- Ethernet with a tag, high byte first, with nanoseconds
pub tagged : captured (0xA1 ∷ 0xB2 ∷ 0x3C ∷ 0x4D ∷ replicate 16 0 ++ (0 ∷ 0 ∷ 0 ∷ 1 ∷ []) ++ replicate 8 0 ++ (0 ∷ 0 ∷ 0 ∷ 48 ∷ []) ++ replicate 4 0
    ++ replicate 12 0xFF ++ (0x81 ∷ 0 ∷ 0 ∷ 5 ∷ 8 ∷ 0 ∷ []) ++ ask) (replicate 10 0xEE) (9 ∷ [])
    ≡ record { answer = accepted (10 ∷ 1 ∷ []); room = asked ++ silence; frames = 1 ∷ [] }
unfolding all
tagged = refl
