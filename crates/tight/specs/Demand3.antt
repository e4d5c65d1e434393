-- Demand 3 of every output that the checker accepts.
use Rattle.std.specs.Prelude.{ℕ, ◌≡◌, List, false, length}
use Rattle.lbp16.specs.declared.pointer.Pointers.{Pointers}
use Rattle.packet.specs.Step.{Step}
use Rattle.packet.specs.Command.{limit}
use Rattle.card.specs.Run.{bad_state}
use Rattle.cue.specs.Records.{records, records_of}
use Rattle.cue.specs.Output.{frames, apart}
use Rattle.cue.specs.Play.{play}
use Rattle.cue.specs.Demand3.{SameAsRecords}

-- The list's records are `xs`; the proposal, taken apart, is `packets`, `count` of them; and from every state that refusal 1
-- does not turn away, with reply rooms of 1,472 bytes whatever they hold, running these is the same as doing the records one
-- by one.
pub record TightDemand3 (list proposal : List ℕ) (count : ℕ) : Type 0 where
  pub xs : List Step
  pub list-records : records_of list ≡ records xs
  pub packets : List (List ℕ)
  pub taken-apart : apart proposal ≡ frames packets
  pub packet-count : count ≡ length packets
  pub same : (store : List ℕ) (p : Pointers) (rooms : ℕ → List ℕ) → bad_state store p ≡ false
      → ((i : ℕ) → length (rooms i) ≡ limit)
      → SameAsRecords xs packets store (play packets rooms store p)
