-- Inside of private functions' contracts. A reader need not believe these: laws tie them to the rest.
use Rattle.std.specs.Prelude.{ℕ, ◌+◌, ◌*◌, ◌≤◌, ◌≡◌, List, Bool, false, not, ◌&&◌, length, drop}
use Rattle.lbp16.specs.Answer.{ruled}
use Rattle.lbp16.specs.Space.{status, space_of, is_absent}
use Rattle.lbp16.specs.declared.word.Fields.{Fields}
use Rattle.lbp16.specs.declared.pointer.Pointers.{Pointers}
use Rattle.packet.specs.Step.{Step, write, answered, unlocked}
use Rattle.packet.specs.Rules.{first, misaligned, past_end, barred, any_step}
use Rattle.packet.specs.Command.{limit, fields_at, kind_of, row_of, header_bytes, command_bytes, address_used, stride, elements, steps_at}
use Rattle.packet.specs.Command.{refusals, found, found_listed}
use Rattle.packet.specs.Reach.{reach_at}
use Rattle.packet.specs.declared.refusal.Ruling.{Ruling}
use Rattle.packet.specs.declared.refusal.Judged.{Judged}

-- an element written to space 6
abbrev pub status_write : ℕ → List ℕ → Step
status_write a bs = record { kind = write; space = status; address = a; bytes = bs }

-- whether the unlock is open after the command at the front, which uses the address `used`
abbrev pub unlocked_by : Bool → Fields → ℕ → List ℕ → Bool
unlocked_by open? f used rest =
    unlocked open? (elements (kind_of f) (space_of f.space) f.count used (stride f) (drop (header_bytes f) rest))

-- A command that rules 3 to 12 let pass.
pub record Passed (p : Pointers) (open? : Bool) (reply : ℕ) (f : Fields) (rest : List ℕ) : Type 0 where
  pub header : header_bytes f ≤ length rest
  pub served : (f.info && f.write) ≡ false
  pub present : is_absent (space_of f.space) ≡ false
  pub sized : f.size ≡ (row_of f).size
  pub some : 1 ≤ f.count
  pub aligned : misaligned (row_of f) (address_used p f rest) ≡ false
  pub inside : any_step past_end (steps_at p f rest) ≡ false
  pub allowed : any_step barred (steps_at p f rest) ≡ false
  pub unlocks : (f.write && (row_of f).locked && not open?) ≡ false
  pub whole : command_bytes f ≤ length rest
  pub answers : reply + f.count * answered (kind_of f) (space_of f.space) ≤ limit

-- the fields of a plain command to space 0 that has its size code
pub record ForRegisters (f : Fields) : Type 0 where
  pub plain : f.info ≡ false
  pub space : f.space ≡ 0
  pub size : f.size ≡ 2

-- the refusal table's number for a command, and its reach if there is none
pub record Ruled (p : Pointers) (open? : Bool) (reply : ℕ) (f : Fields) (rest : List ℕ) (r : Ruling) : Type 0 where
  pub number : ruled r.rules ≡ first (refusals p open? reply f rest)
  pub reach : first (refusals p open? reply f rest) ≡ 0 → r.reach ≡ reach_at p f rest

-- what is found at a command, and its reach if it is not refused
pub record JudgedAt (p : Pointers) (open? : Bool) (reply place : ℕ) (rest : List ℕ) (j : Judged) : Type 0 where
  pub found : found_listed j.found ≡ found p open? reply place rest
  pub reach : first (refusals p open? reply (fields_at rest) rest) ≡ 0 → j.reach ≡ reach_at p (fields_at rest) rest
