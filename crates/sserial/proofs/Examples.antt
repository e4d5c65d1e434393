-- The definitions on small card memories: the table at 0, and three records of 16 bytes from 8 on, unit and name empty.
use Prim.Native.Nat.{ℕ}
use mathlib.Core.Path.{◌≡◌, refl}
use mathlib.Core.Bool.{Bool, true}
use mathlib.Core.List.{List, [], ◌∷◌, ◌++◌}
use lib.ListN.{take}
use Rattle.lbp16.specs.Answer.{accepted, refused}
use Rattle.sserial.specs.Table
use Rattle.sserial.specs.Table.{checked_at}
use Rattle.sserial.specs.Layout
use Rattle.sserial.specs.Calls
use Rattle.sserial.specs.Calls.{counted, indexed, packed_to, unpacked_to}
use Rattle.sserial.specs.declared.table.Direction.TheVariants.{Outputs}

field : ℕ → ℕ → ℕ → List ℕ
field width kind direction = 0xA0 ∷ width ∷ kind ∷ direction ∷ 0 ∷ 0 ∷ 0 ∷ 0 ∷ 0 ∷ 0 ∷ 0x80 ∷ 0x3F ∷ 0 ∷ 0 ∷ 0 ∷ 0 ∷ []

mode : ℕ → List ℕ
mode type = 0xB0 ∷ 1 ∷ type ∷ 0 ∷ 0 ∷ 0 ∷ 0 ∷ 0 ∷ 0 ∷ 0 ∷ 0 ∷ 0 ∷ 0 ∷ 0 ∷ 0 ∷ 0 ∷ []

card : List ℕ → List ℕ → List ℕ → List ℕ
card a b c = 8 ∷ 0 ∷ 24 ∷ 0 ∷ 40 ∷ 0 ∷ 0 ∷ 0 ∷ a ++ b ++ c

-- 30 plain bits out, 12 signed bits out across registers 0 and 1, 8 bits both ways
good : List ℕ
good = card (field 30 2 0x80) (field 12 3 0x80) (field 8 1 0x40)

registers : List ℕ
registers = 1 ∷ 2 ∷ 3 ∷ 4 ∷ 5 ∷ 6 ∷ 7 ∷ 8 ∷ 9 ∷ 10 ∷ 11 ∷ 12 ∷ 13 ∷ 14 ∷ 15 ∷ 16 ∷ 17 ∷ 18 ∷ 19 ∷ 20 ∷ 21 ∷ 22 ∷ 23 ∷ 24 ∷ []

-- the same with 5, -2048 and 255 in channel 1
packed : List ℕ
packed = 1 ∷ 2 ∷ 3 ∷ 5 ∷ 261632 ∷ 0 ∷ 7 ∷ 8 ∷ 9 ∷ 10 ∷ 11 ∷ 12 ∷ 13 ∷ 14 ∷ 15 ∷ 16 ∷ 17 ∷ 18 ∷ 19 ∷ 20 ∷ 21 ∷ 22 ∷ 23 ∷ 24 ∷ []

-- opens every definition
all : Bool
unfolding field mode card good registers packed Table.nul_of Table.name_place Table.field_of
    Table.sound_field Table.sound_mode Table.record_at Table.entry_of Table.with_field Table.with_entry Table.table_from
    Table.table_at Table.stands_in Table.directed Table.bits Table.any_miswide Table.overfull Table.checked Table.checked_at
    Layout.joined Layout.words_of Layout.is_signed Layout.value_of Layout.bits_of Layout.in_range Layout.packed
    Layout.unpacked Layout.fitting Calls.counted Calls.shown Calls.front Calls.indexed Calls.no_channel Calls.packed_by
    Calls.packed_to Calls.unpacked_by Calls.unpacked_to Calls.called_on
all = true

counts : counted (checked_at good 0) ≡ accepted (1 ∷ 3 ∷ [])
unfolding all
counts = refl

-- the second field: width, type, direction, minimum, maximum, places of unit and name
second : indexed (checked_at good 0) 1 ≡ accepted (12 ∷ 3 ∷ 0x80 ∷ 0 ∷ 0x3F800000 ∷ 38 ∷ 39 ∷ [])
unfolding all
second = refl

past-last : indexed (checked_at good 0) 3 ≡ refused 40 0
unfolding all
past-last = refl

least : packed_to (checked_at good 0) Outputs 1 (5 ∷ 18446744073709549568 ∷ 255 ∷ []) registers
    ≡ record { answer = accepted []; left = packed }
unfolding all
least = refl

back : unpacked_to (checked_at good 0) Outputs 1 packed (0 ∷ 0 ∷ 0 ∷ [])
    ≡ record { answer = accepted []; left = 5 ∷ 18446744073709549568 ∷ 255 ∷ [] }
unfolding all
back = refl

above : packed_to (checked_at good 0) Outputs 1 (5 ∷ 2048 ∷ 255 ∷ []) registers ≡ record { answer = refused 40 0; left = registers }
unfolding all
above = refl

-- a table cut inside the last name
cut : counted (checked_at (take 55 good) 0) ≡ refused 41 0
unfolding all
cut = refl

-- 97 bits; and a mode type that is not in the document, which comes first
wide : counted (checked_at (card (field 64 2 0x80) (field 33 2 0x80) (mode 1)) 0) ≡ refused 42 0
unfolding all
wide = refl

first : counted (checked_at (card (field 64 2 0x80) (field 33 2 0x80) (mode 2)) 0) ≡ refused 41 0
unfolding all
first = refl
