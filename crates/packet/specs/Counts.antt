-- How many elements a packet moves: the sum of the counts of its commands.
use Rattle.std.specs.Prelude.{ℕ, zero, suc, ◌+◌, List, [], ◌∷◌, length, drop}
use Rattle.lbp16.specs.Answer.{Answer}
use Rattle.packet.specs.Command.{fields_at, command_bytes}

-- The counts of the commands that stand one after the other in the bytes. `fuel` bounds the number of commands; as many as
-- there are bytes is enough.
unfoldable pub counts_from : ℕ → List ℕ → List ℕ
counts_from zero rest = []
counts_from (suc fuel) [] = []
counts_from (suc fuel) (b ∷ bs) =
    let f = fields_at (b ∷ bs) in
    f.count ∷ counts_from fuel (drop (command_bytes f) (b ∷ bs))

unfoldable pub counts_of : List ℕ → List ℕ
counts_of packet = counts_from (length packet) packet

unfoldable pub sum : List ℕ → ℕ
sum [] = 0
sum (n ∷ ns) = n + sum ns

-- the number of elements moved by a packet with this answer; a refused packet moves none
unfoldable pub elements_moved : Answer → List ℕ → ℕ
elements_moved (Answer.accepted values) packet = sum (counts_of packet)
elements_moved (Answer.refused n place) packet = 0
