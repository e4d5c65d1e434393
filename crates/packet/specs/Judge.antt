-- A packet's check: the commands in order, each found in the state that those before it leave.
use Rattle.std.specs.Prelude.{ℕ, zero, suc, ◌+◌, List, [], ◌∷◌, ◌++◌, false, length, drop}
use Rattle.lbp16.specs.Answer.{Answer}
use Rattle.lbp16.specs.declared.pointer.Pointers.{Pointers}
use Rattle.packet.specs.Step.{Step, unlocked, reply_bytes}
use Rattle.packet.specs.Command.{fields_at, command_bytes, steps_at, Finding, found, pointers_after}

-- What is carried from command to command: the pointers, the steps so far, and the offset of the next command.
pub record Carried : Type 0 where
  pub pointers : Pointers
  pub steps : List Step
  pub place : ℕ

pub data Verdict : Type 0 where
  refused : ℕ → ℕ → Verdict
  accepted : Carried → Verdict

unfoldable pub begin : Pointers → Carried
begin p = record { pointers = p; steps = []; place = 0 }

-- The unlock is closed when a packet begins.
unfoldable pub found_next : Carried → List ℕ → Finding
found_next c rest = found c.pointers (unlocked false c.steps) (reply_bytes c.steps) c.place rest

unfoldable pub carry : Carried → List ℕ → Carried
carry c rest =
    let f = fields_at rest in
    record {
      pointers = pointers_after c.pointers f rest;
      steps = c.steps ++ steps_at c.pointers f rest;
      place = c.place + command_bytes f;
    }

-- A refusal at a command is the packet's.
abbrev pub verdict_at : Answer → Verdict → Verdict
verdict_at (Answer.accepted values) v = v
verdict_at (Answer.refused n place) v = refused n place

-- `fuel` bounds the number of commands; as many as there are bytes is enough.
unfoldable pub judge_from : ℕ → Carried → List ℕ → Verdict
judge_from zero c rest = accepted c
judge_from (suc fuel) c [] = accepted c
judge_from (suc fuel) c (b ∷ bs) =
    verdict_at (found_next c (b ∷ bs)).which
    (judge_from fuel (carry c (b ∷ bs)) (drop (command_bytes (fields_at (b ∷ bs))) (b ∷ bs)))

unfoldable pub judge : Pointers → List ℕ → Verdict
judge p packet = judge_from (length packet) (begin p) packet
