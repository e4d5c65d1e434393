-- The packing rule as a packing of records that come one by one, and what comes out of a whole list.
use Rattle.std.specs.Prelude.{ℕ, zero, suc, ◌+◌, List, [], ◌∷◌, ◌++◌, Bool, not, ◌&&◌, cond, length, drop, eqb}
use Rattle.packet.specs.Step.{Step, is_write, is_status}
use Rattle.packet.specs.Rules.{first}
use Rattle.cue.specs.Records.{Listed, records, refused, records_of, record_kind, record_bytes, record_step, record_refusals}
use Rattle.cue.specs.Packing.{Command, command_steps, Open, commands_of, started, turn, packets}
use Rattle.cue.specs.Compile.{bytes_of_output}
use Rattle.parts.specs.Taking.{Packing}

-- The open packet, if there is one.
pub data Opened : Type 0 where
  none : Opened
  some : Open → Opened

-- one record more: the packets that it closes, and the open packet after it
unfoldable pub closes : Opened → Step → List (List Command)
closes none x = []
closes (some o) x = (turn o x).closed

unfoldable pub opens : Opened → Step → Opened
opens none x = some (started [] x)
opens (some o) x = some (turn o x).open?

-- the packet that the list's end closes
unfoldable pub last_of : Opened → List (List Command)
last_of none = []
last_of (some o) = commands_of o ∷ []

unfoldable pub packing_rule : Packing Opened
packing_rule =
    record {
      turned = λ o x. record { out = bytes_of_output (closes o x); packet = opens o x };
      last = λ o. bytes_of_output (last_of o);
    }

-- the packets that these records close, and the open packet after them
unfoldable pub closed_from : Opened → List Step → List (List Command)
closed_from o [] = []
closed_from o (x ∷ xs) = closes o x ++ closed_from (opens o x) xs

-- The records before a list's first bad one; all, if none is.
unfoldable pub good_then : ℕ → Step → List Step → List Step
good_then zero x xs = x ∷ xs
good_then (suc n) x xs = []

unfoldable pub good_from : ℕ → ℕ → List ℕ → List Step
good_from zero index rest = []
good_from (suc fuel) index [] = []
good_from (suc fuel) index (b ∷ bs) =
    let rest = b ∷ bs in
    good_then (first (record_refusals index rest)) (record_step rest)
    (good_from fuel (index + 1) (drop (record_bytes (record_kind rest)) rest))

unfoldable pub good_records : List ℕ → List Step
good_records list = good_from (length list) 0 list

-- The packets of a list that comes in parts: the packing rule's; of a refused list those that the records before the bad
-- one closed.
unfoldable pub packets_by : Listed → List Step → List (List Command)
packets_by (records xs) ys = packets xs
packets_by (refused n i) ys = closed_from none ys

unfoldable pub packets_of : List ℕ → List (List Command)
packets_of list = packets_by (records_of list) (good_records list)

-- an unlock: a write to its cell, and the only command without increment
unfoldable pub is_unlock : Command → Bool
is_unlock c = not c.increment && is_write c.kind && is_status c.space && eqb c.address 0x1A

-- The records that packets hold are the elements of their commands, unlocks apart.
unfoldable pub packet_records : List Command → List Step
packet_records [] = []
packet_records (c ∷ cs) = cond (is_unlock c) [] (command_steps c) ++ packet_records cs

unfoldable pub records_held : List (List Command) → List Step
records_held [] = []
records_held (cs ∷ css) = packet_records cs ++ records_held css

-- the sum of the counts of packets' commands, unlocks apart
unfoldable pub packet_count : List Command → ℕ
packet_count [] = 0
packet_count (c ∷ cs) = cond (is_unlock c) 0 (length c.elements) + packet_count cs

unfoldable pub count_held : List (List Command) → ℕ
count_held [] = 0
count_held (cs ∷ css) = packet_count cs + count_held css
