-- From a capture to the recording of one card: its requests with their replies, in turn.
use Rattle.std.specs.Prelude.{ℕ, zero, suc, ◌+◌, ◌^◌, ◌%◌, List, [], ◌∷◌, ◌++◌, Bool, true, false, not, ◌||◌, ◌&&◌, cond, length, drop, eqb, ltb, Result, Ok, Err}
use Rattle.lbp16.specs.Answer.{Answer, refusal}
use Rattle.packet.specs.Rules.{Rule, first}
use Rattle.cue.specs.Output.{framed}
use Rattle.capture.specs.File.{File, file_of, frame_bytes, frame_in}
use Rattle.capture.specs.Datagram.{datagram_in, data_of}
use Rattle.capture.specs.declared.datagram.Datagram.{Datagram}
use Rattle.capture.specs.declared.Recorded.{Recorded}
use Rattle.lbp16.specs.declared.Refusal.{Refusal}

-- the card's port
abbrev pub card_port : ℕ
card_port = 27181

-- A request's frame and packet, without a reply or with one.
pub data Exchange : Type 0 where
  asked : ℕ → List ℕ → Exchange
  answered : ℕ → List ℕ → List ℕ → Exchange

-- What the frames so far have told: whether the card's address is known, the address, and the exchanges, the latest first.
pub record Told : Type 0 where
  pub known : Bool
  pub card : ℕ
  pub exchanges : List Exchange

unfoldable pub nothing_told : Told
nothing_told = record { known = false; card = 0; exchanges = [] }

-- A request goes to the card's address and port. The first datagram to that port tells the address.
unfoldable pub requests : Bool → ℕ → Datagram → Bool
requests known card d = d.seen && eqb d.destination_port card_port && (not known || eqb d.destination card)

-- A reply is any other datagram from them.
unfoldable pub replies : Bool → ℕ → Datagram → Bool
replies known card d = not (requests known card d) && known && d.seen && eqb d.source_port card_port && eqb d.source card

-- whether the last request has no reply yet
unfoldable pub is_waiting : List Exchange → Bool
is_waiting [] = false
is_waiting (asked k packet ∷ before) = true
is_waiting (answered k packet reply ∷ before) = false

-- 93: a datagram of the card that isn't whole. 94: a second reply to a request; before the first request no card is known, and so no reply.
unfoldable pub datagram_refusals : Bool → ℕ → Bool → Datagram → List Rule
datagram_refusals known card waiting d =
    record { number = 93; holds = (requests known card d || replies known card d) && not d.whole }
    ∷ record { number = 94; holds = replies known card d && not waiting }
    ∷ []

-- what is read of the frame at the front
unfoldable pub seen_at : File → List ℕ → Datagram
seen_at f rest = datagram_in f.big f.link (frame_in (frame_bytes f.big rest) rest)

unfoldable pub data_at : File → List ℕ → List ℕ
data_at f rest = data_of (seen_at f rest) (frame_in (frame_bytes f.big rest) rest)

-- 92, of a frame that is cut and not read, and of others 93 and 94.
unfoldable pub frame_refusals : File → Told → List ℕ → List Rule
frame_refusals f t rest =
    record { number = 92; holds = eqb (frame_bytes f.big rest) 0 }
    ∷ datagram_refusals t.known t.card (is_waiting t.exchanges) (seen_at f rest)

-- the last request's reply
unfoldable pub answer : List ℕ → List Exchange → List Exchange
answer reply [] = []
answer reply (asked k packet ∷ before) = answered k packet reply ∷ before
answer reply (answered k packet other ∷ before) = answered k packet other ∷ before

-- What is told with frame k, which holds this datagram with this data. All other frames are passed over.
unfoldable pub with_datagram : ℕ → Told → Datagram → List ℕ → Told
with_datagram k t d bytes =
    cond (requests t.known t.card d)
    (record { known = true; card = d.destination; exchanges = asked k bytes ∷ t.exchanges })
    (cond (replies t.known t.card d) (record { known = t.known; card = t.card; exchanges = answer bytes t.exchanges }) t)

-- The exchanges of a capture, the latest first, or the refusal of the earliest bad frame, and there the lowest number.
pub data Heard : Type 0 where
  refused : ℕ → ℕ → Heard
  exchanges : List Exchange → Heard

-- From frame k on. `fuel` bounds the number of frames; as many as there are bytes is enough.
unfoldable pub heard_from : ℕ → File → ℕ → Told → List ℕ → Heard
heard_from zero f k t rest = exchanges t.exchanges
heard_from (suc fuel) f k t rest =
    let n = first (frame_refusals f t rest) in
    cond (eqb (length rest) 0) (exchanges t.exchanges)
    (cond (eqb n 0)
    (heard_from fuel f (k + 1) (with_datagram k t (seen_at f rest) (data_at f rest)) (drop (frame_bytes f.big rest) rest))
    (refused n k))

-- of the bytes behind the file's header; frames are counted from 1
unfoldable pub heard : File → List ℕ → Heard
heard f rest = heard_from (length rest) f 1 nothing_told rest

-- The recording: each packet and its reply behind mark and length. A missing reply has no bytes.
unfoldable pub bytes_of_exchange : Exchange → List ℕ
bytes_of_exchange (asked k packet) = framed packet ++ framed []
bytes_of_exchange (answered k packet reply) = framed packet ++ framed reply

unfoldable pub recording_of : List Exchange → List ℕ
recording_of [] = []
recording_of (x ∷ before) = recording_of before ++ bytes_of_exchange x

-- the frame of each request, in 32 bits
unfoldable pub frame_number : Exchange → ℕ
frame_number (asked k packet) = k % 2 ^ 32
frame_number (answered k packet reply) = k % 2 ^ 32

unfoldable pub frames_of : List Exchange → List ℕ
frames_of [] = []
frames_of (x ∷ before) = frames_of before ++ (frame_number x ∷ [])

-- All that reading a capture answers and leaves.
pub record Captured : Type 0 where
  pub answer : Answer
  pub room : List ℕ
  pub frames : List ℕ

abbrev pub turned_away : ℕ → ℕ → List ℕ → List ℕ → Captured
turned_away n k room frames = record { answer = Answer.refused n k; room = room; frames = frames }

-- Refusal 26, then 27; else recording and frames stand at the front of their rooms.
unfoldable pub written : Heard → List ℕ → List ℕ → Captured
written (refused n k) room frames = turned_away n k room frames
written (exchanges xs) room frames =
    cond (ltb (length room) (length (recording_of xs))) (turned_away 26 (length (recording_of xs)) room frames)
    (cond (ltb (length frames) (length xs)) (turned_away 27 (length xs) room frames)
    (record {
      answer = Answer.accepted (length (recording_of xs) ∷ length xs ∷ []);
      room = recording_of xs ++ drop (length (recording_of xs)) room;
      frames = frames_of xs ++ drop (length (frames_of xs)) frames;
    }))

-- Refusal 91 comes before all else.
unfoldable pub captured : List ℕ → List ℕ → List ℕ → Captured
captured capture room frames =
    let f = file_of capture in cond f.good (written (heard f (drop 24 capture)) room frames) (turned_away 91 0 room frames)

-- an answer of the code as the papers list it
unfoldable pub capture_listed : Result Recorded Refusal → Answer
capture_listed (Ok r) = Answer.accepted (r.bytes ∷ r.packets ∷ [])
capture_listed (Err r) = refusal r

-- what reading by the code answers and leaves
abbrev pub left : Result Recorded Refusal → List ℕ → List ℕ → Captured
left a room frames = record { answer = capture_listed a; room = room; frames = frames }
