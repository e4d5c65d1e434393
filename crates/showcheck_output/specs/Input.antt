-- What the judging program says of its standard input: a recording, or by its first four bytes a capture.
use Rattle.std.specs.Prelude.{ℕ, List, ◌++◌, Bool, ◌||◌, cond, length, take, drop, replicate, eqb, ltb}
use Rattle.lbp16.specs.declared.pointer.Pointers.{Pointers}
use Rattle.packet.specs.Bytes.{number}
use Rattle.packet.specs.Command.{limit}
use Rattle.capture.specs.File.{file_of}
use Rattle.capture.specs.Capture.{Heard, heard, recording_of, frames_of}
use Rattle.text.specs.Number.{ascii}
use Rattle.text.specs.Line.{numbered, too_long_line}
use Rattle.showcheck_output.specs.Findings.{most_bytes, judged_text, recording_text}

-- the most packets of a capture of that many bytes: a request's frame has at least 44
abbrev pub most_packets : ℕ
most_packets = 68182

-- A capture's first number, as it reads low byte first: 0xA1B2C3D4 or, with times in nanoseconds, 0xA1B23C4D, in either byte order.
unfoldable pub is_capture : ℕ → Bool
is_capture n = eqb n 0xA1B2C3D4 || (eqb n 0xD4C3B2A1 || (eqb n 0xA1B23C4D || eqb n 0x4D3CB2A1))

-- a pcapng file's, the same in both
unfoldable pub is_pcapng : ℕ → Bool
is_pcapng n = eqb n 0x0A0D0D0A

unfoldable pub pcapng_text : List ℕ
pcapng_text = ascii "a pcapng file, which is not read here: editcap -F pcap IN OUT makes a capture of it that is\n"

-- what is wrong at a frame: 92, 93 and 94
unfoldable pub frame_sentence : ℕ → List ℕ
frame_sentence n =
    cond (eqb n 92) (ascii "fewer bytes than the frame's header has, or than it says were captured\n")
    (cond (eqb n 93)
    (ascii "a datagram of the card is not whole: more fragments follow, its lengths differ, or bytes were not captured\n")
    (ascii "a second reply to a request\n"))

-- Of a capture that is refused. 26 and 27 are of the rooms that the program has.
unfoldable pub unread_text : ℕ → ℕ → List ℕ
unread_text n k =
    cond (ltb n 91) too_long_line
    (cond (eqb n 91) (ascii "refused 91: no capture that is read here: fewer than 24 bytes, or another link type\n")
    (numbered (ascii "refused ") n ++ numbered (ascii " at frame ") k ++ ascii ": " ++ frame_sentence n))

-- of a capture's packets and replies: they are judged as a recording, with the frames of its packets
unfoldable pub heard_text : Heard → List ℕ → Pointers → List ℕ
heard_text (Heard.refused n k) store p = unread_text n k
heard_text (Heard.exchanges xs) store p =
    cond (ltb most_bytes (length (recording_of xs)) || ltb most_packets (length xs)) too_long_line
    (judged_text (recording_of xs) (frames_of xs) store p (replicate limit 0))

unfoldable pub capture_text : List ℕ → List ℕ → Pointers → List ℕ
capture_text capture store p =
    cond (ltb most_bytes (length capture)) too_long_line
    (cond (file_of capture).good (heard_text (heard (file_of capture) (drop 24 capture)) store p) (unread_text 91 0))

unfoldable pub input_text : List ℕ → List ℕ → Pointers → List ℕ
input_text input store p =
    let n = number (take 4 input) in
    cond (is_pcapng n) pcapng_text (cond (is_capture n) (capture_text input store p) (recording_text input store p))
