-- When a packet uses a space's pointer before it has set it. What this says of a packet with info commands plays no part, since
-- any info command is rejected.
use Rattle.std.specs.Prelude.{ℕ, zero, suc, List, [], ◌∷◌, Bool, false, not, ◌||◌, ◌&&◌, length, drop, eqb}
use Rattle.lbp16.specs.Space.{Space, space_of, space_number}
use Rattle.packet.specs.Command.{fields_at, command_bytes}

-- whether a space is among these
unfoldable pub among : Space → List Space → Bool
among s [] = false
among s (t ∷ ts) = eqb (space_number s) (space_number t) || among s ts

-- A command with an address sets its space's pointer; one without uses the pointer, which must be set. `set`: the spaces whose
-- pointers are set so far.
unfoldable pub uses_from : ℕ → List Space → List ℕ → Bool
uses_from zero set rest = false
uses_from (suc fuel) set [] = false
uses_from (suc fuel) set (b ∷ bs) =
    let rest = b ∷ bs in
    let f = fields_at rest in
    let s = space_of f.space in
    (not f.address && not (among s set)) || uses_from fuel (s ∷ set) (drop (command_bytes f) rest)

-- `fuel` bounds the number of commands; as many as there are bytes is enough.
unfoldable pub uses_unset : List ℕ → Bool
uses_unset packet = uses_from (length packet) [] packet
