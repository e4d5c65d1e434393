-- One packet on a card store: its check, which changes nothing, and its run.
use Rattle.std.specs.Prelude.{ℕ, ◌+◌, List, [], ◌∷◌, ◌++◌, Bool, not, ◌||◌, cond, length, take, drop, eqb, ltb}
use Rattle.std.proofs.lemmas.List.Edits.{sets}
use Rattle.lbp16.specs.Answer.{Answer}
use Rattle.lbp16.specs.Space.{store_bytes}
use Rattle.lbp16.specs.Pointer.{above_size, pointers_of, lent_pointers}
use Rattle.lbp16.specs.declared.pointer.Pointers.{Pointers}
use Rattle.packet.specs.Bytes.{number, bytes_of}
use Rattle.packet.specs.Step.{store_after, values_read}
use Rattle.packet.specs.Command.{limit}
use Rattle.packet.specs.Judge.{Verdict, refused, accepted, judge}
use Rattle.packet.specs.Verdict.{answer_to, verdict_listed}
use Rattle.card.specs.declared.run.Ran.{Ran}
use Rattle.card.specs.declared.run.RanLent.{RanLent}

-- All that a run answers and leaves. `elements`: how many it moved.
pub record Outcome : Type 0 where
  pub answer : Answer
  pub elements : ℕ
  pub store : List ℕ
  pub reply : List ℕ
  pub pointers : Pointers

-- the first bytes in the store of the unlock cell and of the packet count (RXUDPCount), 0x1A and 0x0A of space 6
abbrev pub unlock_cell : ℕ
unlock_cell = 65664 + 0x1A

abbrev pub count_cell : ℕ
count_cell = 65664 + 0x0A

-- the store with the unlock cell at 0
unfoldable pub cleared : List ℕ → List ℕ
cleared store = sets store unlock_cell (0 ∷ 0 ∷ [])

-- the bytes of the packet count, and the store with it one up, from 65,535 to 0
unfoldable pub bytes_of_count : List ℕ → List ℕ
bytes_of_count store = take 2 (drop count_cell store)

unfoldable pub counted : List ℕ → List ℕ
counted store = sets store count_cell (bytes_of 2 (number (bytes_of_count store) + 1))

-- refusal 1, of store and pointers
unfoldable pub bad_state : List ℕ → Pointers → Bool
bad_state store p = not (eqb (length store) store_bytes) || above_size p

-- The check of packet and pointers alone, which asks no store: refusal 2, then the packet's commands.
unfoldable pub checked_packet : Pointers → List ℕ → Verdict
checked_packet p packet = cond (ltb limit (length packet)) (refused 2 0) (judge p packet)

-- The check: refusal 1, then the packet. It sees no reply room.
unfoldable pub checked : List ℕ → List ℕ → Pointers → Verdict
checked packet store p = cond (bad_state store p) (refused 1 0) (checked_packet p packet)

-- A refusal leaves all as it was. An accepted packet does its steps, then clears the unlock cell, then counts itself; the
-- bytes read stand at the front of the reply.
unfoldable pub outcome : Verdict → List ℕ → Pointers → List ℕ → Outcome
outcome (refused n place) store p reply =
    record { answer = answer_to (refused n place); elements = 0; store = store; reply = reply; pointers = p }
outcome (accepted c) store p reply =
    let values = values_read c.steps store in
    record {
      answer = answer_to (accepted c);
      elements = length c.steps;
      store = counted (cleared (store_after c.steps store));
      reply = values ++ drop (length values) reply;
      pointers = c.pointers;
    }

-- A wrong reply room is refused with 1, by the run alone. Otherwise the run refuses what the check refuses, and answers
-- the check's length.
unfoldable pub run_verdict : List ℕ → List ℕ → Pointers → List ℕ → Verdict
run_verdict packet store p reply = cond (eqb (length reply) limit) (checked packet store p) (refused 1 0)

unfoldable pub run_packet : List ℕ → List ℕ → Pointers → List ℕ → Outcome
run_packet packet store p reply = outcome (run_verdict packet store p reply) store p reply

-- The same with pointers lent as a list; another count of them than eight is refused with 1.
unfoldable pub checked_lent : List ℕ → List ℕ → List ℕ → Verdict
checked_lent packet store lent = cond (eqb (length lent) 8) (checked packet store (pointers_of lent)) (refused 1 0)

pub record LentOutcome : Type 0 where
  pub answer : Answer
  pub elements : ℕ
  pub store : List ℕ
  pub reply : List ℕ
  pub pointers : List ℕ

unfoldable pub as_lent : Outcome → LentOutcome
as_lent o =
    record {
      answer = o.answer;
      elements = o.elements;
      store = o.store;
      reply = o.reply;
      pointers = lent_pointers o.pointers;
    }

unfoldable pub run_lent : List ℕ → List ℕ → List ℕ → List ℕ → LentOutcome
run_lent packet store lent reply =
    cond (eqb (length lent) 8) (as_lent (run_packet packet store (pointers_of lent) reply))
    (record { answer = Answer.refused 1 0; elements = 0; store = store; reply = reply; pointers = lent })

unfoldable pub ran_lent : RanLent → List ℕ → List ℕ → List ℕ → LentOutcome
ran_lent r store lent reply =
    record { answer = verdict_listed r.answer; elements = r.elements; store = store; reply = reply; pointers = lent }

-- what a run of the code answers and leaves
unfoldable pub ran : Ran → List ℕ → List ℕ → Outcome
ran r store reply = record { answer = verdict_listed r.answer; elements = r.elements; store = store; reply = reply; pointers = r.pointers }

-- the most elements that a packet can move
abbrev pub most_elements : ℕ
most_elements = 1460
