-- A recorded show: packet 0, its reply, packet 1, its reply and so on, each behind the mark "LB" and its length.
use Rattle.std.specs.Prelude.{ℕ, zero, suc, ◌+◌, ◌*◌, List, [], ◌∷◌, Bool, true, false, cond, length, take, drop, replicate, eqb, ltb}
use Rattle.lbp16.specs.Answer.{Answer, rule_number}
use Rattle.lbp16.specs.declared.pointer.Pointers.{Pointers}
use Rattle.packet.specs.Command.{limit}
use Rattle.card.specs.Run.{Outcome, bad_state, run_packet}
use Rattle.cue.specs.Output.{Front, front_of, bytes_in_frame, behind_frame}
use Rattle.cue.specs.Play.{reply_length}
use Rattle.recording.specs.declared.pair.Pair.{Pair}
use Rattle.recording.specs.declared.Judgment.{Judgment}
use Rattle.recording.specs.declared.Judged.{Judged}

-- What is said of a recording. Packets and parts are counted from 0.
pub data Verdict : Type 0 where
  yes : ℕ → Verdict
  refused : ℕ → ℕ → Verdict
  bad_packet : ℕ → Verdict
  bad_length : ℕ → Verdict
  bad_byte : ℕ → ℕ → Verdict
  cut : ℕ → Verdict
  unmarked : ℕ → Verdict

-- The place of the first byte that differs, the length if none does.
unfoldable pub first_wrong : List ℕ → List ℕ → ℕ
first_wrong [] ys = 0
first_wrong (x ∷ xs) [] = 0
first_wrong (x ∷ xs) (y ∷ ys) = cond (eqb x y) (suc (first_wrong xs ys)) 0

-- The reply that was found behind a packet of n bytes: its length is judged before its bytes.
unfoldable pub found_pair : ℕ → List ℕ → List ℕ → Pair
found_pair n expected found =
    let k = first_wrong expected found in
    cond (eqb (length found) (length expected))
    (cond (ltb k (length found)) (Pair.WrongByte k) (Pair.Good (8 + n + length found)))
    Pair.WrongLength

-- `behind` are the bytes behind the packet. A missing reply is cut.
unfoldable pub reply_pair : Front → ℕ → List ℕ → List ℕ → Pair
reply_pair Front.end n expected behind = Pair.Cut true
reply_pair Front.cut n expected behind = Pair.Cut true
reply_pair Front.unmarked n expected behind = Pair.Unmarked true
reply_pair (Front.frame m) n expected behind = found_pair n expected (bytes_in_frame m behind)

-- What a packet with its reply is found to be, and what the packet leaves. `room` holds the card's own reply.
pub record PairLeft : Type 0 where
  pub pair : Pair
  pub store : List ℕ
  pub pointers : Pointers
  pub room : List ℕ

abbrev pub pair_left : Pair → List ℕ → Pointers → List ℕ → PairLeft
pair_left pair store p room = record { pair = pair; store = store; pointers = p; room = room }

-- the reply is judged only if the packet was accepted
unfoldable pub answered_pair : Answer → ℕ → List ℕ → List ℕ → Pair
answered_pair (Answer.refused m place) n reply behind = Pair.Refused
answered_pair (Answer.accepted values) n reply behind =
    reply_pair (front_of behind) n (take (reply_length (Answer.accepted values)) reply) behind

unfoldable pub ran_pair : ℕ → List ℕ → Outcome → PairLeft
ran_pair n rest o =
    pair_left (answered_pair o.answer n o.reply (behind_frame n rest)) o.store o.pointers o.reply

unfoldable pub front_pair : Front → List ℕ → List ℕ → Pointers → List ℕ → PairLeft
front_pair Front.end rest store p room = pair_left Pair.End store p room
front_pair Front.cut rest store p room = pair_left (Pair.Cut false) store p room
front_pair Front.unmarked rest store p room = pair_left (Pair.Unmarked false) store p room
front_pair (Front.frame n) rest store p room = ran_pair n rest (run_packet (bytes_in_frame n rest) store p room)

unfoldable pub pair_at : List ℕ → List ℕ → Pointers → List ℕ → PairLeft
pair_at rest store p room = front_pair (front_of rest) rest store p room

-- the bytes of a packet and its reply that are as they should be, 0 of all others
abbrev pub good_bytes : Pair → ℕ
good_bytes Pair.End = 0
good_bytes (Pair.Good k) = k
good_bytes Pair.Refused = 0
good_bytes Pair.WrongLength = 0
good_bytes (Pair.WrongByte k) = 0
good_bytes (Pair.Cut reply) = 0
good_bytes (Pair.Unmarked reply) = 0

abbrev pub part_number : ℕ → Bool → ℕ
part_number i reply = 2 * i + cond reply 1 0

-- what is said where packet i and its reply are not both as they should be
abbrev pub verdict_of : Pair → ℕ → Verdict
verdict_of Pair.End i = yes i
verdict_of (Pair.Good k) i = yes i
verdict_of Pair.Refused i = bad_packet i
verdict_of Pair.WrongLength i = bad_length i
verdict_of (Pair.WrongByte k) i = bad_byte i k
verdict_of (Pair.Cut reply) i = cut (part_number i reply)
verdict_of (Pair.Unmarked reply) i = unmarked (part_number i reply)

-- All that judging answers and leaves: the verdict, where the last packet looked at begins, and store and pointers as the packets
-- accepted so far left them.
pub record Left : Type 0 where
  pub verdict : Verdict
  pub at : ℕ
  pub store : List ℕ
  pub pointers : Pointers
  pub room : List ℕ

abbrev pub stopped : Verdict → ℕ → PairLeft → Left
stopped v at t = record { verdict = v; at = at; store = t.store; pointers = t.pointers; room = t.room }

-- From packet i on, at the recording's byte `at`. `fuel` bounds the packets; more than the bytes is enough.
unfoldable pub judged_from : ℕ → ℕ → ℕ → List ℕ → List ℕ → Pointers → List ℕ → Left
judged_from zero i at rest store p room = stopped (yes i) at (pair_left Pair.End store p room)
judged_from (suc fuel) i at rest store p room =
    let t = pair_at rest store p room in
    let k = good_bytes t.pair in
    cond (eqb k 0) (stopped (verdict_of t.pair i) at t)
    (judged_from fuel (1 + i) (at + k) (drop k rest) t.store t.pointers t.room)

unfoldable pub judged_parts : List ℕ → List ℕ → Pointers → List ℕ → Left
judged_parts recording store p room = judged_from (suc (length recording)) 0 0 recording store p room

-- Refusal 1, of store and pointers, comes before all else.
unfoldable pub judged_in : List ℕ → List ℕ → Pointers → List ℕ → Left
judged_in recording store p room =
    cond (bad_state store p) (stopped (refused 1 0) 0 (pair_left Pair.End store p room)) (judged_parts recording store p room)

-- All that the judge answers and leaves: its reply room, of 1,472 bytes, is its own.
pub record Said : Type 0 where
  pub verdict : Verdict
  pub at : ℕ
  pub store : List ℕ
  pub pointers : Pointers

unfoldable pub said : Left → Said
said l = record { verdict = l.verdict; at = l.at; store = l.store; pointers = l.pointers }

unfoldable pub judged : List ℕ → List ℕ → Pointers → Said
judged recording store p = said (judged_in recording store p (replicate limit 0))

-- the judgment's values, for each case
abbrev pub verdict_listed : Judgment → Verdict
verdict_listed (Judgment.Yes n) = yes n
verdict_listed (Judgment.Refused r) = refused (rule_number r.rule) r.place
verdict_listed (Judgment.BadPacket i) = bad_packet i
verdict_listed (Judgment.BadLength i) = bad_length i
verdict_listed (Judgment.BadByte i k) = bad_byte i k
verdict_listed (Judgment.Cut j) = cut j
verdict_listed (Judgment.Unmarked j) = unmarked j

-- what judging by the code answers and leaves
unfoldable pub left : Judged → List ℕ → List ℕ → Left
left r store room =
    record { verdict = verdict_listed r.judgment; at = r.at; store = store; pointers = r.pointers; room = room }

unfoldable pub said_by : Judged → List ℕ → Said
said_by r store = record { verdict = verdict_listed r.judgment; at = r.at; store = store; pointers = r.pointers }
