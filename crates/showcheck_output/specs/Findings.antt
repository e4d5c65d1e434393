-- What the judging program says of a recording: `yes` and the number of packets, or what is at fault.
use Rattle.std.specs.Prelude.{ℕ, ◌+◌, ◌-◌, ◌/◌, List, [], ◌++◌, Bool, true, false, cond, length, take, drop, get_or, replicate, eqb, ltb}
use Rattle.lbp16.specs.Space.{store_bytes}
use Rattle.lbp16.specs.Pointer.{fresh}
use Rattle.lbp16.specs.declared.pointer.Pointers.{Pointers}
use Rattle.packet.specs.Command.{limit}
use Rattle.cue.specs.Output.{Front, front_of}
use Rattle.recording.specs.Recording.{Verdict, Left, verdict_listed, judged_in}
use Rattle.recording.specs.declared.Judgment.{Judgment}
use Rattle.text.specs.Number.{ascii, bytes_of_hex}
use Rattle.text.specs.Line.{numbered, too_long_line}
use Rattle.why_output.specs.Wording as why
use Rattle.why_output.specs.Packets.{shown_bytes}

-- the most bytes that a recording or a capture may have
abbrev pub most_bytes : ℕ
most_bytes = 3000000

-- a number between two texts
unfoldable pub between : List ℕ → ℕ → List ℕ → List ℕ
between before n after = numbered before n ++ after

-- the frame of packet i, where there are frames
unfoldable pub frame_text : List ℕ → ℕ → List ℕ
frame_text frames i = cond (ltb i (length frames)) (between (ascii " (frame ") (get_or frames i 0) (ascii ")")) []

-- a packet or a part by its number n, and by the frame of packet i
unfoldable pub named : List ℕ → ℕ → List ℕ → ℕ → List ℕ
named label n frames i = numbered label n ++ frame_text frames i

unfoldable pub yes_text : ℕ → List ℕ
yes_text n = between (ascii "yes, ") n (cond (eqb n 0) (ascii " packets: nothing to judge\n") (ascii " packets\n"))

unfoldable pub hex_line : List ℕ → List ℕ → List ℕ
hex_line label bytes = label ++ bytes_of_hex bytes ++ ascii "\n"

-- the byte at k, and at most four on each side of it
unfoldable pub around : ℕ → List ℕ → List ℕ
around k bytes = drop (k - 4) (take (k + 5) bytes)

-- the bytes that a whole frame takes, mark and length included
unfoldable pub frame_end : Front → ℕ
frame_end Front.end = 0
frame_end Front.cut = 0
frame_end Front.unmarked = 0
frame_end (Front.frame n) = 4 + n

-- the bytes of the frame at the front, and those behind it
unfoldable pub bytes_of_front : List ℕ → List ℕ
bytes_of_front rest = drop 4 (take (frame_end (front_of rest)) rest)

unfoldable pub behind_front : List ℕ → List ℕ
behind_front rest = drop (frame_end (front_of rest)) rest

-- The reply that the card gave, at the front of `reply`, and the one found, around the byte at k.
unfoldable pub both_replies : List ℕ → List ℕ → ℕ → List ℕ
both_replies found reply k =
    hex_line (ascii "expected") (around k (take (length found) reply)) ++ hex_line (ascii "found   ") (around k found)

-- the same of the bytes from the packet on
unfoldable pub replies_text : List ℕ → List ℕ → ℕ → List ℕ
replies_text rest reply k = both_replies (bytes_of_front (behind_front rest)) reply k

unfoldable pub bad_byte_text : List ℕ → ℕ → ℕ → List ℕ → List ℕ → List ℕ
bad_byte_text frames i k rest reply =
    named (ascii "packet ") i frames i ++ between (ascii ", byte ") k (ascii " of its reply is wrong\n") ++ replies_text rest reply k

unfoldable pub shown_text : List ℕ → ℕ → List ℕ → List ℕ
shown_text frames i packet = named (ascii "packet ") i frames i ++ ascii " is refused:" ++ shown_bytes packet ++ ascii "\n"

-- no reply stands behind the packet, or one of no bytes
unfoldable pub unanswered : Front → Bool
unanswered Front.end = true
unanswered Front.cut = false
unanswered Front.unmarked = false
unanswered (Front.frame n) = eqb n 0

unfoldable pub unanswered_text : List ℕ → List ℕ
unanswered_text behind = cond (unanswered (front_of behind)) (ascii "it has no reply: a card does not answer what it refuses\n") []

-- A packet that is refused: its bytes, and what `why` says of it in the state that the card then has.
unfoldable pub refused_text : List ℕ → ℕ → List ℕ → List ℕ → List ℕ → Pointers → List ℕ
refused_text frames i packet behind store p = shown_text frames i packet ++ why.said packet store p ++ unanswered_text behind

-- the same of the bytes from the packet on
unfoldable pub bad_packet_text : List ℕ → ℕ → List ℕ → List ℕ → Pointers → List ℕ
bad_packet_text frames i rest store p = refused_text frames i (bytes_of_front rest) (behind_front rest) store p

-- The text of each verdict: `rest` begins with the last packet looked at, `reply` with what the card answered last; store and pointers
-- are those that the card then has. Packets, the bytes of a reply, and parts, packets and replies alike, are counted from 0.
-- Refusal 1 is of store and pointers, and so of any packet, one with nothing in it too.
unfoldable pub verdict_text : Verdict → List ℕ → List ℕ → List ℕ → Pointers → List ℕ → List ℕ
verdict_text (Verdict.yes n) frames rest store p reply = yes_text n
verdict_text (Verdict.refused m k) frames rest store p reply = why.said [] store p
verdict_text (Verdict.bad_packet i) frames rest store p reply = bad_packet_text frames i rest store p
verdict_text (Verdict.bad_length i) frames rest store p reply =
    named (ascii "packet ") i frames i ++ ascii ": its reply has another length\n"
verdict_text (Verdict.bad_byte i k) frames rest store p reply = bad_byte_text frames i k rest reply
verdict_text (Verdict.cut j) frames rest store p reply = named (ascii "part ") j frames (j / 2) ++ ascii " is cut\n"
verdict_text (Verdict.unmarked j) frames rest store p reply = named (ascii "part ") j frames (j / 2) ++ ascii " has no mark\n"

abbrev pub judgment_text : Judgment → List ℕ → List ℕ → List ℕ → Pointers → List ℕ → List ℕ
judgment_text judgment frames rest store p reply = verdict_text (verdict_listed judgment) frames rest store p reply

unfoldable pub left_text : List ℕ → List ℕ → Left → List ℕ
left_text recording frames l = verdict_text l.verdict frames (drop l.at recording) l.store l.pointers l.room

-- of a recording, with the frames of its packets or none, judged on a card with this store, these pointers and this reply room
unfoldable pub judged_text : List ℕ → List ℕ → List ℕ → Pointers → List ℕ → List ℕ
judged_text recording frames store p room = left_text recording frames (judged_in recording store p room)

unfoldable pub recording_text : List ℕ → List ℕ → Pointers → List ℕ
recording_text recording store p =
    cond (ltb most_bytes (length recording)) too_long_line (judged_text recording [] store p (replicate limit 0))

-- of a recording judged on a fresh card
unfoldable pub said : List ℕ → List ℕ
said recording = recording_text recording (replicate store_bytes 0) fresh
