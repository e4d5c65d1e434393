-- One record packed for a caller that keeps the packer and the open packet's room itself. Where the numbers kept are out
-- of range nothing is done.
use Rattle.std.specs.Prelude.{ℕ, ◌+◌, List, [], ◌∷◌, Bool, false, ◌||◌, ◌&&◌, cond, length, take, drop, ltb}
use Rattle.packet.specs.Command.{limit}
use Rattle.cue.specs.Records.{record_at, most_records}
use Rattle.cue.specs.Output.{frame_room}
use Rattle.cue.specs.Summary.{most_output, carried_by, turned_by, wrote}
use Rattle.cue.specs.declared.records.Record.{Record}
use Rattle.cue.specs.declared.packer.Packer.{Packer}

-- whether some test holds
abbrev pub any_of : List Bool → Bool
any_of [] = false
any_of (b ∷ []) = b
any_of (b ∷ c ∷ bs) = b || any_of (c ∷ bs)

unfoldable pub loose_tests : Packer → List Bool
loose_tests p =
    ltb 127 p.count
    ∷ ltb (limit + 1) p.packet
    ∷ ltb limit p.reply
    ∷ ltb most_output p.end
    ∷ ltb most_records p.packets
    ∷ []

unfoldable pub turned_within : Packer → Record → Packer
turned_within p r = cond (any_of (loose_tests p)) p (turned_by p r)

-- `room` and `rest`: the bytes of the room, and those from the record on
unfoldable pub outside_tests : Packer → ℕ → ℕ → ℕ → List Bool
outside_tests q n rest room =
    ltb room frame_room
    ∷ ltb limit q.frame
    ∷ ltb limit q.word
    ∷ (ltb q.word 6 && q.unlock)
    ∷ ltb frame_room q.end
    ∷ ltb q.end 4
    ∷ ltb 7 q.space
    ∷ ltb 127 q.count
    ∷ ltb limit q.packet
    ∷ ltb rest (6 + n)
    ∷ []

unfoldable pub put_within : Packer → List ℕ → List ℕ → List ℕ
put_within q rest room =
    let n = carried_by (record_at rest) in
    cond (any_of (outside_tests q n (length rest) (length room))) room (wrote q (take n (drop 6 rest)) room)
