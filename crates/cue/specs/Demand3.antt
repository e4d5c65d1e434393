-- Demand 3: running all compiled packets in order reads the same values and leaves the same cells as doing the records
-- one by one, two cells apart: the unlock cell, and the packet count, which rises by the number of packets.
use Rattle.std.specs.Prelude.{ℕ, ◌+◌, ◌≤◌, ◌<◌, ◌≡◌, ◌⊎◌, List, [], ◌∷◌, true, false, length, take, get_or}
use Rattle.lbp16.specs.declared.pointer.Pointers.{Pointers}
use Rattle.packet.specs.Bytes.{number, bytes_of}
use Rattle.packet.specs.Step.{Step, store_after, values_read}
use Rattle.packet.specs.Command.{limit}
use Rattle.card.specs.Run.{bad_state, unlock_cell, count_cell, bytes_of_count}
use Rattle.cue.specs.Records.{records, records_of}
use Rattle.cue.specs.Output.{frames, apart}
use Rattle.cue.specs.Compile.{packed}
use Rattle.cue.specs.Play.{Played, play}

-- a byte of the unlock cell after the packets: 0 if one ran, else as it was
unfoldable pub unlock_after : List (List ℕ) → ℕ → ℕ
unlock_after [] old = old
unlock_after (p ∷ ps) old = 0

-- the packet count's two bytes after the packets: as they were if none ran, else the count plus their number, modulo 65,536
unfoldable pub count_after : List (List ℕ) → List ℕ → List ℕ
count_after [] old = old
count_after (p ∷ ps) old = bytes_of 2 (number old + length (p ∷ ps))

-- a byte of the store off a cell of two bytes
abbrev pub Off : ℕ → ℕ → Type 0
Off cell i = (i < cell) ⊎ (cell + 2 ≤ i)

-- The packets ran from `store` to `played`; `xs` are the records.
pub record SameAsRecords (xs : List Step) (packets : List (List ℕ)) (store : List ℕ) (played : Played) : Type 0 where
  pub accepted : played.accepted ≡ true
  pub values : played.replies ≡ values_read xs store
  pub bytes : length played.store ≡ length (store_after xs store)
  pub cells : (i : ℕ) → Off unlock_cell i → Off count_cell i → get_or played.store i 0 ≡ get_or (store_after xs store) i 0
  pub unlock : (i : ℕ) → unlock_cell ≤ i → i < unlock_cell + 2
      → get_or played.store i 0 ≡ unlock_after packets (get_or store i 0)
  pub count : bytes_of_count played.store ≡ count_after packets (bytes_of_count store)

-- Of a list that was answered with these bytes and this count, and of what then stands in the room: the list's records
-- are `xs`; the first `bytes` bytes of the room, taken apart, are the packing rule's packets, `count` of them; and from
-- every state that refusal 1 does not turn away, with reply rooms of 1,472 bytes whatever they hold, running these is the
-- same as doing the records one by one.
pub record Demand3 (list room : List ℕ) (bytes count : ℕ) : Type 0 where
  pub xs : List Step
  pub list-records : records_of list ≡ records xs
  pub packets : apart (take bytes room) ≡ frames (packed xs)
  pub packet-count : count ≡ length (packed xs)
  pub same : (store : List ℕ) (p : Pointers) (rooms : ℕ → List ℕ) → bad_state store p ≡ false
      → ((i : ℕ) → length (rooms i) ≡ limit)
      → SameAsRecords xs (packed xs) store (play (packed xs) rooms store p)
