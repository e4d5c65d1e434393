-- Compiling a cue list into lent output room.
use Rattle.std.specs.Prelude.{ℕ, List, [], ◌∷◌, ◌++◌, map, cond, length, drop, ltb, Result, Ok, Err}
use Rattle.lbp16.specs.Answer.{Answer, refusal}
use Rattle.lbp16.specs.declared.Refusal.{Refusal}
use Rattle.packet.specs.Step.{Step}
use Rattle.cue.specs.Records.{Listed, refused, records, records_of}
use Rattle.cue.specs.Packing.{Command, packets, bytes_of_packet}
use Rattle.cue.specs.Output.{output_of}
use Rattle.cue.specs.declared.Packed.{Packed}

-- the output of packets that are commands
unfoldable pub bytes_of_output : List (List Command) → List ℕ
bytes_of_output css = output_of (map bytes_of_packet css)

-- the packets' bytes, in order, and the whole output
unfoldable pub packed : List Step → List (List ℕ)
packed xs = map bytes_of_packet (packets xs)

unfoldable pub output : List Step → List ℕ
output xs = output_of (packed xs)

-- what a list needs: the output's bytes and its packets, or the list's refusal
unfoldable pub needed : Listed → Answer
needed (refused n i) = Answer.refused n i
needed (records xs) = Answer.accepted (length (output xs) ∷ length (packed xs) ∷ [])

-- All that a compilation answers and leaves.
pub record Compiled : Type 0 where
  pub answer : Answer
  pub room : List ℕ

-- refusal 26, or the output at the front of the room
unfoldable pub compiled_to : Listed → List ℕ → Compiled
compiled_to (refused n i) room = record { answer = Answer.refused n i; room = room }
compiled_to (records xs) room =
    let bytes = length (output xs) in
    cond (ltb (length room) bytes)
    (record { answer = Answer.refused 26 bytes; room = room })
    (record { answer = Answer.accepted (bytes ∷ length (packed xs) ∷ []); room = output xs ++ drop bytes room })

unfoldable pub compiled : List ℕ → List ℕ → Compiled
compiled list room = compiled_to (records_of list) room

-- an answer of the code as the papers list it
unfoldable pub compile_listed : Result Packed Refusal → Answer
compile_listed (Ok p) = Answer.accepted (p.bytes ∷ p.packets ∷ [])
compile_listed (Err r) = refusal r

-- what a compilation of the code answers and leaves
unfoldable pub left : Result Packed Refusal → List ℕ → Compiled
left a room = record { answer = compile_listed a; room = room }
