-- What holds of any sequence of calls from a fresh start.
use Rattle.std.specs.Prelude.{ℕ, zero, suc, ◌+◌, ◌≤◌, ◌<◌, ◌≡◌, ◌⊎◌, List, [], ◌∷◌, ◌++◌, map, Bool, true, false, cond, length, take, drop, replicate, ltb}
use Rattle.lbp16.specs.Answer.{Answer}
use Rattle.lbp16.specs.declared.pointer.Pointers.{Pointers}
use Rattle.packet.specs.Step.{Step}
use Rattle.packet.specs.Command.{limit}
use Rattle.card.specs.Run.{bad_state}
use Rattle.cue.specs.Records.{records, refused, records_of}
use Rattle.cue.specs.Packing.{Command, bytes_of_packet}
use Rattle.cue.specs.Play.{play}
use Rattle.cue.specs.Demand3.{SameAsRecords, Demand3}
use Rattle.cue.specs.Compile.{bytes_of_output}
use Rattle.parts.specs.Taking.{State, Stopped, called, answered, fresh}
use Rattle.parts.specs.Rule.{Opened, packing_rule, good_records, packets_of, records_held, count_held}
use Rattle.parts.specs.State.{state_bytes}
use Rattle.cue.specs.Output.{frame_room}
use Rattle.parts.specs.Parts.{PartCall, part_of}

unfoldable pub fresh_state : List ℕ
fresh_state = replicate state_bytes 0

-- the bytes that a call wrote, at the front of the room
unfoldable pub bytes_written : Answer → ℕ
bytes_written (Answer.accepted []) = 0
bytes_written (Answer.accepted (n ∷ ns)) = n
bytes_written (Answer.refused n place) = 0

unfoldable pub written : PartCall → List ℕ
written c = take (bytes_written c.answer) c.room

-- A part that continues the list where `at` bytes are taken; where the list's end is said, it goes up to the end.
pub record Continues (list : List ℕ) (at : ℕ) (part : List ℕ) (last : Bool) : Type 0 where
  pub rest : List ℕ
  pub follows : drop at list ≡ part ++ rest
  pub whole : last ≡ true → rest ≡ []

-- The packing rule's own state after the same call: room under 1,476 bytes leaves it as it was.
unfoldable pub rule_after : State Opened → List ℕ → Bool → List ℕ → State Opened
rule_after s part last room = cond (ltb (length room) frame_room) s (called packing_rule s part last).left.state

-- Calls one after the other, each given the state that the last one left and a part that continues the list. `at` bytes
-- of the list are taken, `state` is left, `out` is all that was written, joined, and `s` is the packing rule's own state.
pub data Calls (list : List ℕ) : ℕ → List ℕ → List ℕ → State Opened → Type 0 where
  none : Calls list 0 fresh_state [] (fresh Opened.none)
  more : {at : ℕ} {state out : List ℕ} {s : State Opened} (part : List ℕ) (last : Bool) (room : List ℕ)
      → Calls list at state out s → Continues list at part last
      → Calls list (at + (part_of state part last room).taken) (part_of state part last room).state
      (out ++ written (part_of state part last room)) (rule_after s part last room)

-- A call answers, takes and hands out what the packing rule's does.
pub record AsRule (q : Stopped Opened) (c : PartCall) : Type 0 where
  pub answer : c.answer ≡ answered q.left
  pub taken : c.taken ≡ q.taken
  pub packet : written c ≡ q.left.out

-- What the next call answers, if the list is good: no refusal; and where the end is said and nothing is written, all of
-- the list's output is out.
pub record Goes (list state out part : List ℕ) (last : Bool) (room : List ℕ) : Type 0 where
  pub bytes : ℕ
  pub answer : (part_of state part last room).answer ≡ Answer.accepted (bytes ∷ [])
  pub all-out : last ≡ true → bytes ≡ 0 → out ≡ bytes_of_output (packets_of list)

-- What it answers, if the list is refused with n at i: this refusal, when all packets that the records before the bad
-- one closed are out; or no refusal, and then something is written if the end is said.
pub record Fails (list state out part : List ℕ) (last : Bool) (room : List ℕ) (n i : ℕ) : Type 0 where
  pub answer : (part_of state part last room).answer ≡ Answer.refused n i
  pub all-out : out ≡ bytes_of_output (packets_of list)

pub record Writes (state part : List ℕ) (last : Bool) (room : List ℕ) : Type 0 where
  pub bytes : ℕ
  pub answer : (part_of state part last room).answer ≡ Answer.accepted (bytes ∷ [])
  pub some : last ≡ true → 0 < bytes

-- Calls with all the bytes left and the end said: what the call behind so many others answers.
unfoldable pub answer_behind : ℕ → List ℕ → List ℕ → (ℕ → List ℕ) → Answer
answer_behind zero state left rooms = (part_of state left true (rooms 0)).answer
answer_behind (suc others) state left rooms =
    let c = part_of state left true (rooms 0) in
    answer_behind others c.state (drop c.taken left) (λ i. rooms (suc i))

-- The refusal is reported after at most so many such calls, and one.
pub record Reports (state left : List ℕ) (rooms : ℕ → List ℕ) (most n i : ℕ) : Type 0 where
  pub others : ℕ
  pub few : others ≤ most
  pub answer : answer_behind others state left rooms ≡ Answer.refused n i

-- From every state that refusal 1 does not turn away, with reply rooms of 1,472 bytes whatever they hold, running the
-- packets in order is the same as doing the records one by one.
abbrev pub RunAs : List (List ℕ) → List Step → Type 0
RunAs packets xs =
    (store : List ℕ) (p : Pointers) (rooms : ℕ → List ℕ) → bad_state store p ≡ false → ((i : ℕ) → length (rooms i) ≡ limit)
    → SameAsRecords xs packets store (play packets rooms store p)

-- Demand 3 of a list in parts: of all that was written, joined, what holds of the room that the one-call form leaves; and
-- the packets hold all of the list's records.
pub record Demand3InParts (list out : List ℕ) (packets : List (List Command)) : Type 0 where
  pub demand3 : Demand3 list out (length out) (length packets)
  pub all : records_held packets ≡ demand3.xs

-- The promise, wherever the calls have come.
pub record Promise (list : List ℕ) (at : ℕ) (state out : List ℕ) (s : State Opened) : Type 0 where
  -- the next call, whatever its part, with room enough
  pub next : (part : List ℕ) (last : Bool) (room : List ℕ) → frame_room ≤ length room
      → AsRule (called packing_rule s part last) (part_of state part last room)
  -- the packets that are out, and those of the list still to come
  pub packets : List (List Command)
  pub later : List (List Command)
  pub bytes : out ≡ bytes_of_output packets
  pub front : packets_of list ≡ packets ++ later
  -- the records that the packets out so far hold are the list's first, as many as the counts of their commands say, unlocks
  -- apart; and what running these packets does
  pub held : records_held packets ≡ take (count_held packets) (good_records list)
  pub same : RunAs (map bytes_of_packet packets) (records_held packets)
  -- what the next call answers, with room enough
  pub good : (xs : List Step) → records_of list ≡ records xs → (part : List ℕ) (last : Bool) (room : List ℕ)
      → Continues list at part last → frame_room ≤ length room → Goes list state out part last room
  -- where a call with the end said is accepted and writes nothing: the end of a good list
  pub demand3 : (part room : List ℕ) → Continues list at part true → frame_room ≤ length room
      → (part_of state part true room).answer ≡ Answer.accepted (0 ∷ []) → Demand3InParts list out packets
  pub bad : (n i : ℕ) → records_of list ≡ refused n i → (part : List ℕ) (last : Bool) (room : List ℕ)
      → Continues list at part last → frame_room ≤ length room
      → Fails list state out part last room n i ⊎ Writes state part last room
  pub reported : (n i : ℕ) → records_of list ≡ refused n i → (rooms : ℕ → List ℕ) → ((j : ℕ) → frame_room ≤ length (rooms j))
      → Reports state (drop at list) rooms (length later) n i

-- Calls with all the bytes left and the end said, until nothing is written: what they write, joined. `fuel` bounds them.
unfoldable pub unless : ℕ → List ℕ → List ℕ
unless zero l = []
unless (suc n) l = l

unfoldable pub drained : ℕ → List ℕ → List ℕ → List ℕ → List ℕ
drained zero state left room = []
drained (suc fuel) state left room =
    let c = part_of state left true room in
    written c ++ unless (bytes_written c.answer) (drained fuel c.state (drop c.taken left) room)

-- of any list and any calls that left this state
abbrev pub Promised : List ℕ → Type 0
Promised state =
    (list : List ℕ) (at : ℕ) (out : List ℕ) (s : State Opened) → Calls list at state out s → Promise list at state out s
