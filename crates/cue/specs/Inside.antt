-- The inside of private functions' contracts: the two passes as they go over the records, and what keeps the packer's sums and
-- places in range.
use Rattle.std.specs.Prelude.{ℕ, ◌+◌, ◌≤◌, ◌≡◌, List, ◌++◌, true, length, drop}
use Rattle.packet.specs.Step.{Step}
use Rattle.packet.specs.Command.{limit}
use Rattle.cue.specs.Records.{Listed, records_of, most_records}
use Rattle.cue.specs.Records as list
use Rattle.cue.specs.Packing.{Command, pack_from, packets}
use Rattle.cue.specs.Compile.{bytes_of_output}
use Rattle.cue.specs.Summary.{Progress, none, some, most_output}
use Rattle.cue.specs.declared.packer.Packer.{Packer}

-- the packets so far, if these records follow
unfoldable pub onward : Progress → List Step → List (List Command)
onward none xs = packets xs
onward (some css o) xs = css ++ pack_from o xs

-- The refusal of a record still to come, or the packets at the list's end.
pub data Planned : Type 0 where
  refused : ℕ → ℕ → Planned
  packed : List (List Command) → Planned

unfoldable pub planned : Progress → Listed → Planned
planned s (list.refused n i) = refused n i
planned s (list.records xs) = packed (onward s xs)

-- what the second pass leaves
unfoldable pub room_after : Planned → List ℕ → List ℕ
room_after (refused n i) room = room
room_after (packed css) room = bytes_of_output css ++ drop (length (bytes_of_output css)) room

-- what keeps the packer's sums small
pub record Roomy (p : Packer) : Type 0 where
  pub count : p.count ≤ 127
  pub packet : p.packet ≤ limit + 1
  pub reply : p.reply ≤ limit
  pub end : p.end ≤ most_output
  pub packets : p.packets ≤ most_records

-- what keeps the writing of a record inside the room
pub record Placed (q : Packer) (room : ℕ) : Type 0 where
  pub frame : q.frame + 4 ≤ room
  pub word : q.word + 4 ≤ room
  pub unlock : q.unlock ≡ true → 6 ≤ q.word
  pub end : q.end ≤ room
  pub element : 4 ≤ q.end
  pub space : q.space ≤ 7
  pub count : q.count ≤ 127
  pub packet : q.packet ≤ limit

-- a list that the first pass found good, with room for its output
pub record Ready (list room : List ℕ) : Type 0 where
  pub packets : List (List Command)
  pub plan : planned none (records_of list) ≡ packed packets
  pub fits : length (bytes_of_output packets) ≤ length room
