-- The inside of private functions' contracts.
use Rattle.std.specs.Prelude.{ℕ, ◌+◌, ◌-◌, ◌^◌, ◌%◌, ◌≤◌, ◌<◌, ◌≡◌, List, [], ◌∷◌, ◌++◌, Bool, true, false, ◌&&◌, cond, length, drop, is_some, unwrap_or}
use Rattle.lbp16.specs.Answer.{Answer}
use Rattle.packet.specs.Rules.{first}
use Rattle.cue.specs.Output.{framed}
use Rattle.capture.specs.Datagram.{data_of}
use Rattle.capture.specs.Capture.{Exchange, Told, is_waiting, requests, replies, datagram_refusals, recording_of, frames_of, Heard, refused, exchanges}
use Rattle.capture.specs.declared.datagram.Datagram.{Datagram}
use Rattle.capture.specs.declared.turn.Progress.{Progress as Held}
use Rattle.capture.specs.declared.turn.Turn.{Turn as Taken}

-- Whether the card's address is known, the address, whether the last request has no reply yet, and the recording's bytes and
-- packets so far.
pub record Progress : Type 0 where
  pub known : Bool
  pub card : ℕ
  pub waiting : Bool
  pub bytes : ℕ
  pub packets : ℕ

-- the same as the code holds it
abbrev pub progress_listed : Held → Progress
progress_listed p =
    record { known = is_some p.card; card = unwrap_or p.card 0; waiting = p.waiting; bytes = p.bytes; packets = p.packets }

-- Whether a datagram is a request, or a reply, and the number of its refusal, 0 if there is none.
pub record Turn : Type 0 where
  pub request : Bool
  pub reply : Bool
  pub number : ℕ

-- as the code tells it
abbrev pub is_request : Taken → Bool
is_request Taken.Other = false
is_request Taken.Request = true
is_request Taken.Reply = false

abbrev pub is_reply : Taken → Bool
is_reply Taken.Other = false
is_reply Taken.Request = false
is_reply Taken.Reply = true

abbrev pub turn_listed : Taken → Turn
turn_listed t = record { request = is_request t; reply = is_reply t; number = 0 }

-- what is told, by its numbers
unfoldable pub progress_of : Told → Progress
progress_of t =
    record {
      known = t.known;
      card = t.card;
      waiting = is_waiting t.exchanges;
      bytes = length (recording_of t.exchanges);
      packets = length t.exchanges;
    }

-- what a datagram is to the card, and the number of its refusal
unfoldable pub turn_of : Progress → Datagram → Turn
turn_of p d =
    record {
      request = requests p.known p.card d;
      reply = replies p.known p.card d;
      number = first (datagram_refusals p.known p.card p.waiting d);
    }

-- the numbers with one datagram more: a request has an empty reply's frame behind it, which a reply takes the place of
unfoldable pub moved_by : Progress → Datagram → Turn → Progress
moved_by p d t =
    cond t.request
    (record { known = true; card = d.destination; waiting = true; bytes = p.bytes + 8 + d.bytes; packets = p.packets + 1 })
    (cond t.reply
    (record { known = p.known; card = p.card; waiting = false; bytes = p.bytes + d.bytes; packets = p.packets })
    p)

-- they can be counted on
pub record Roomy (p : Progress) (d : Datagram) (t : Turn) : Type 0 where
  pub request : t.request ≡ true → p.bytes + 8 + d.bytes < 18446744073709551616
  pub reply : t.reply ≡ true → p.bytes + d.bytes < 18446744073709551616
  pub packets : p.packets + 1 < 18446744073709551616

-- what a datagram adds to the recording, where it is put, and what it adds to the frames; nothing if nothing is to be written
unfoldable pub part_at : Progress → Turn → ℕ
part_at p t = cond t.request p.bytes (p.bytes - 4)

unfoldable pub part_of : Bool → Turn → Datagram → List ℕ → List ℕ
part_of write t d frame =
    cond (write && t.request) (framed (data_of d frame) ++ framed []) (cond (write && t.reply) (framed (data_of d frame)) [])

unfoldable pub number_part : Bool → Turn → ℕ → List ℕ
number_part write t k = cond (write && t.request) (k % 2 ^ 32 ∷ []) []

-- there is room for what a datagram adds
pub record Fits (write : Bool) (p : Progress) (t : Turn) (d : Datagram) (frame room numbers : ℕ) : Type 0 where
  pub request : (write && t.request) ≡ true
      → (d.at + d.bytes ≤ frame) × (d.bytes < 65536) × (p.bytes + 8 + d.bytes ≤ room) × (p.packets < numbers)
  pub reply : (write && t.reply) ≡ true
      → (d.at + d.bytes ≤ frame) × (d.bytes < 65536) × (4 ≤ p.bytes) × (p.bytes + d.bytes ≤ room)

-- what a walk over the frames says
unfoldable pub said_of : Heard → Answer
said_of (refused n k) = Answer.refused n k
said_of (exchanges xs) = Answer.accepted (length (recording_of xs) ∷ length xs ∷ [])

-- what a walk leaves of a room, if it writes
unfoldable pub front_over : Bool → List ℕ → List ℕ → List ℕ
front_over false front old = old
front_over true front old = front ++ drop (length front) old

unfoldable pub room_after : Bool → Heard → List ℕ → List ℕ
room_after write (refused n k) old = old
room_after write (exchanges xs) old = front_over write (recording_of xs) old

unfoldable pub numbers_after : Bool → Heard → List ℕ → List ℕ
numbers_after write (refused n k) old = old
numbers_after write (exchanges xs) old = front_over write (frames_of xs) old

-- frames that the first walk found good, with room for all that is to be written
pub record Ready (h : Heard) (room numbers : List ℕ) : Type 0 where
  pub xs : List Exchange
  pub same : h ≡ exchanges xs
  pub bytes : length (recording_of xs) ≤ length room
  pub packets : length xs ≤ length numbers
