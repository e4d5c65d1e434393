-- Guards at their edges, and what they stop, computed.
use Prim.Native.Nat.{ℕ}
use mathlib.Core.Path.{◌≡◌, refl}
use mathlib.Core.List.{List, [], ◌∷◌, ◌++◌}
use lib.ListN.{replicate}
use Rattle.lbp16.specs.Answer.{Answer, accepted, refused}
use Rattle.lbp16.specs.Pointer.{fresh}
use Rattle.lbp16.specs.Info
use Rattle.packet.specs.Bytes
use Rattle.packet.specs.Command
use Rattle.spi.specs.Spi
use Rattle.cue.proofs.Examples.{all}
use Rattle.interlock.specs.Guard
use Rattle.interlock.specs.Guard.{soundness}
use Rattle.interlock.specs.Guarded
use Rattle.interlock.specs.Guarded.{guarded_packet, guarded_burst, guarded_list}

-- opens every definition that a guard computes with
unfoldable guards : ℕ
unfolding Guard.shares Guard.faulty Guard.sound_from Guard.soundness Guard.touches Guard.writes_protected Guard.protected
guards = 0

unfoldable packets : ℕ
unfolding all guards Bytes.pairs_of Command.bytes_of_area Info.area_words Guarded.sound_first Guarded.place_from Guarded.protected_place
    Guarded.held_back Guarded.guarded_verdict Guarded.guarded_packet
packets = 0

unfoldable bursts : ℕ
unfolding all guards Spi.first_word Spi.bytes_of_words Spi.words_of_bytes Spi.burst_kind Spi.burst_steps Spi.burst_refusals Spi.burst_words
    Spi.burst_outcome Spi.other_command Guarded.promised Guarded.guarded_refusals Guarded.burst_by Guarded.guarded_burst
bursts = 0

unfoldable lists : ℕ
unfolding all guards Guarded.records_held Guarded.list_held Guarded.list_by Guarded.guarded_list
lists = 0

-- no range at all
empty : soundness [] ≡ accepted (0 ∷ [])
unfolding guards
empty = refl

-- up to the store's end, and a byte past it
last_byte : soundness (65727 ∷ 1 ∷ []) ≡ accepted (1 ∷ [])
unfolding guards
last_byte = refl

past_end_lem : soundness (65727 ∷ 2 ∷ []) ≡ refused 70 0
unfolding guards
past_end_lem = refl

-- a range of no bytes: at the end, past it, and on the unlock cell
none-at_end : soundness (65728 ∷ 0 ∷ []) ≡ accepted (1 ∷ [])
unfolding guards
none-at_end = refl

none-past_end : soundness (65729 ∷ 0 ∷ []) ≡ refused 70 0
unfolding guards
none-past_end = refl

none-on_unlock : soundness (65690 ∷ 0 ∷ []) ≡ accepted (1 ∷ [])
unfolding guards
none-on_unlock = refl

-- beside the unlock cell and the packet count, and on their first and last bytes
beside : soundness (65672 ∷ 2 ∷ 65676 ∷ 14 ∷ 65692 ∷ 36 ∷ []) ≡ accepted (3 ∷ [])
unfolding guards
beside = refl

on-count : soundness (0 ∷ 4 ∷ 65673 ∷ 2 ∷ []) ≡ refused 70 1
unfolding guards
on-count = refl

on-unlock : soundness (65691 ∷ 1 ∷ []) ≡ refused 70 0
unfolding guards
on-unlock = refl

-- half a pair, and the 65th pair
half : soundness (0 ∷ 4 ∷ 8 ∷ []) ≡ refused 70 1
unfolding guards
half = refl

most : soundness (replicate 128 0) ≡ accepted (64 ∷ [])
unfolding guards
most = refl

one_more_lem : soundness (replicate 130 0) ≡ refused 70 64
unfolding guards
one_more_lem = refl

-- a shutter's register at 0x1000
abbrev shutter : List ℕ
shutter = 0x1000 ∷ 4 ∷ []

-- what a packet alone on a fresh card is answered
abbrev answer : List ℕ → Answer
answer packet = (guarded_packet shutter packet (replicate 65728 0) fresh (replicate 1472 0)).answer

-- two, and three, registers written from 0xFF8 on: the third is the shutter's
two-written : answer (0x82 ∷ 0xC2 ∷ 0xF8 ∷ 0x0F ∷ replicate 8 1) ≡ accepted (0 ∷ [])
unfolding packets
two-written = refl

third-written : answer (0x83 ∷ 0xC2 ∷ 0xF8 ∷ 0x0F ∷ replicate 12 1) ≡ refused 71 0
unfolding packets
third-written = refl

-- without increment all go to 0xFF8
one_place : answer (0x03 ∷ 0xC2 ∷ 0xF8 ∷ 0x0F ∷ replicate 12 1) ≡ accepted (0 ∷ [])
unfolding packets
one_place = refl

-- the value that stands there
same-value : answer (0x81 ∷ 0xC2 ∷ 0x00 ∷ 0x10 ∷ replicate 4 0) ≡ refused 71 0
unfolding packets
same-value = refl

-- a read, and behind it a write by the pointer that it left
read_only : answer (0x83 ∷ 0x42 ∷ 0xF8 ∷ 0x0F ∷ []) ≡ accepted (12 ∷ [])
unfolding packets
read_only = refl

by-pointer : answer (0x82 ∷ 0x42 ∷ 0xF8 ∷ 0x0F ∷ 0x81 ∷ 0x82 ∷ replicate 4 1) ≡ refused 71 4
unfolding packets
by-pointer = refl

-- a fault of its own in a later command
later-fault : answer (0x81 ∷ 0xC2 ∷ 0x00 ∷ 0x10 ∷ 1 ∷ 1 ∷ 1 ∷ 1 ∷ 0x00 ∷ 0x42 ∷ 0 ∷ 0 ∷ []) ≡ refused 7 8
unfolding packets
later-fault = refl

-- bursts of three words to 0xFF8, of which none came; a read; and one past the end of the space
abbrev burst : ℕ → Answer
burst word = (guarded_burst shutter (word ∷ []) (replicate 65728 0) (0 ∷ [])).answer

promised-write : burst 0x0FF8B830 ≡ refused 71 0
unfolding bursts
promised-write = refl

promised-read : burst 0x0FF8A830 ≡ accepted (0 ∷ [])
unfolding bursts
promised-read = refl

fewer-promised : burst 0x0FF8B820 ≡ accepted (0 ∷ [])
unfolding bursts
fewer-promised = refl

-- the shutter read, another register written, the shutter written; and the same with a bad record behind
abbrev show : List ℕ
show =
    0x52 ∷ 0x44 ∷ 0 ∷ 0 ∷ 0x00 ∷ 0x10 ∷ 0x57 ∷ 0x52 ∷ 0 ∷ 0 ∷ 0xFC ∷ 0x0F ∷ 1 ∷ 0 ∷ 0 ∷ 0 ∷ 0x57 ∷ 0x52 ∷ 0 ∷ 0 ∷ 0x00 ∷ 0x10 ∷ 1 ∷ 0 ∷ 0
    ∷ 0
    ∷ []

third_record : guarded_list shutter show ≡ refused 71 2
unfolding lists
third_record = refl

bad_record : guarded_list shutter (show ++ (0 ∷ [])) ≡ refused 22 3
unfolding lists
bad_record = refl

no_shutter : guarded_list (0x2000 ∷ 4 ∷ []) show ≡ accepted (3 ∷ [])
unfolding lists
no_shutter = refl

unsound_guard : guarded_list (0x2000 ∷ []) (0 ∷ []) ≡ refused 70 0
unfolding lists
unsound_guard = refl
