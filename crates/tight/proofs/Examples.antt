-- Proposals that are accepted and rejected.
use Prim.Native.Nat.{ℕ}
use mathlib.Core.Path.{◌≡◌, refl}
use mathlib.Core.List.{List, [], ◌∷◌, ◌++◌}
use Rattle.text.specs.Find
use Rattle.lbp16.specs.Info
use Rattle.packet.specs.Bytes
use Rattle.packet.specs.Command
use Rattle.cue.proofs.Examples.{all}
use Rattle.tight.specs.Unset
use Rattle.tight.specs.Tight
use Rattle.tight.specs.Tight.{accepted, rejected, refused, checked}

-- a read of a cell of space 6, and of a register
abbrev status : ℕ → List ℕ
status a = 0x52 ∷ 0x44 ∷ 6 ∷ 0 ∷ a ∷ 0 ∷ []

abbrev register : ℕ → List ℕ
register a = 0x52 ∷ 0x44 ∷ 0 ∷ 0 ∷ a ∷ 0 ∷ []

-- four reads of one cell, which the packing rule puts into 20 bytes
abbrev polled : List ℕ
polled = status 2 ++ status 2 ++ status 2 ++ status 2

-- registers and cells of space 6 by turns, which it puts into 32
abbrev turns : List ℕ
turns = register 0 ++ status 2 ++ register 4 ++ status 4 ++ register 8 ++ status 6 ++ register 12

-- opens every definition that a check computes with
unfoldable packets : ℕ
unfolding all Bytes.pairs_of Command.bytes_of_area Info.area_words Unset.among Unset.uses_from Unset.uses_unset
packets = 0

unfoldable steps : ℕ
unfolding Tight.unlocks Tight.without_unlocks Tight.same_kind Find.same_bytes Tight.same_step Tight.same_steps
steps = 0

unfoldable does : ℕ
unfolding Tight.done_by Tight.info_step Tight.plain_only Tight.packet_does Tight.both Tight.packets_do
does = 0

unfoldable every : ℕ
unfolding packets steps does Tight.steps_checked Tight.frames_checked Tight.proposal_checked Tight.checked
every = 0

-- one command without increment
one-command : checked polled (0x4C ∷ 0x42 ∷ 4 ∷ 0 ∷ 0x04 ∷ 0x59 ∷ 2 ∷ 0 ∷ []) ≡ accepted 1
unfolding every
one-command = refl

-- the same behind an empty packet
empty-packet : checked polled (0x4C ∷ 0x42 ∷ 0 ∷ 0 ∷ 0x4C ∷ 0x42 ∷ 4 ∷ 0 ∷ 0x04 ∷ 0x59 ∷ 2 ∷ 0 ∷ []) ≡ accepted 2
unfolding every
empty-packet = refl

-- with an unlock write of 0x5A02 that nothing asks for, and with one of 0x5A03
spare-unlock : checked polled
    (0x4C ∷ 0x42 ∷ 10 ∷ 0 ∷ 0x01 ∷ 0xD9 ∷ 0x1A ∷ 0 ∷ 0x02 ∷ 0x5A ∷ 0x04 ∷ 0x59 ∷ 2 ∷ 0 ∷ [])
    ≡ accepted 1
unfolding every
spare-unlock = refl

other-value : checked polled
    (0x4C ∷ 0x42 ∷ 10 ∷ 0 ∷ 0x01 ∷ 0xD9 ∷ 0x1A ∷ 0 ∷ 0x03 ∷ 0x5A ∷ 0x04 ∷ 0x59 ∷ 2 ∷ 0 ∷ [])
    ≡ rejected
unfolding every
other-value = refl

-- with an info read
info-read : checked polled (0x4C ∷ 0x42 ∷ 8 ∷ 0 ∷ 0x01 ∷ 0x79 ∷ 0 ∷ 0 ∷ 0x04 ∷ 0x59 ∷ 2 ∷ 0 ∷ []) ≡ rejected
unfolding every
info-read = refl

-- addresses that a pointer already has left out
no_addresses : checked turns
    (0x4C ∷ 0x42 ∷ 18 ∷ 0 ∷ 0x81 ∷ 0x42 ∷ 0 ∷ 0 ∷ 0x81 ∷ 0x59 ∷ 2 ∷ 0 ∷ 0x81 ∷ 0x02 ∷ 0x81 ∷ 0x19
    ∷ 0x81 ∷ 0x02 ∷ 0x81 ∷ 0x19 ∷ 0x81 ∷ 0x02 ∷ [])
    ≡ accepted 1
unfolding every
no_addresses = refl

-- the same commands in two packets: the second uses pointers that the first has set
two-packets : checked turns
    (0x4C ∷ 0x42 ∷ 12 ∷ 0 ∷ 0x81 ∷ 0x42 ∷ 0 ∷ 0 ∷ 0x81 ∷ 0x59 ∷ 2 ∷ 0 ∷ 0x81 ∷ 0x02 ∷ 0x81 ∷ 0x19
    ∷ 0x4C ∷ 0x42 ∷ 6 ∷ 0 ∷ 0x81 ∷ 0x02 ∷ 0x81 ∷ 0x19 ∷ 0x81 ∷ 0x02 ∷ [])
    ≡ rejected
unfolding every
two-packets = refl

-- a bad list, whatever is proposed for it
bad-list : checked (polled ++ (0x52 ∷ [])) [] ≡ refused 22 4
unfolding every
bad-list = refl
