-- A step: one element read or written, or one number of an info area read. What a packet, a burst and a cue list do is a
-- list of steps.
use Rattle.std.specs.Prelude.{ℕ, ◌+◌, List, [], ◌∷◌, ◌++◌, Bool, true, false, ◌&&◌, cond, take, drop, eqb}
use Rattle.std.proofs.lemmas.List.Edits.{sets}
use Rattle.lbp16.specs.Space.{Space, registers, eeprom, status, information, absent, row, area_row}
use Rattle.lbp16.specs.declared.space.Row.{Row}
use Rattle.packet.specs.Bytes.{number}

pub data Kind : Type 0 where
  read write infoRead : Kind

-- `bytes` are those that a write puts there, low byte first, as many as the space's element has; a read has none. An info
-- read has the whole info area that it reads from.
pub record Step : Type 0 where
  pub kind : Kind
  pub space : Space
  pub address : ℕ
  pub bytes : List ℕ

unfoldable pub is_info : Kind → Bool
is_info read = false
is_info write = false
is_info infoRead = true

-- the table's line for such a step: its space's or the info area's
unfoldable pub row_by : Kind → Space → Row
row_by k s = area_row (is_info k) s

-- where the element stands in the store, or in the info area
unfoldable pub at : Step → ℕ
at s = (row_by s.kind s.space).place + s.address

-- the bytes of an element that its command carries, and those that its reply carries
unfoldable pub carried : Kind → Space → ℕ
carried read s = 0
carried write s = (row s).element
carried infoRead s = 0

unfoldable pub answered : Kind → Space → ℕ
answered read s = (row s).element
answered write s = 0
answered infoRead s = (row_by infoRead s).element

unfoldable pub stored : Kind → ℕ → List ℕ → List ℕ → List ℕ
stored read i bs store = store
stored write i bs store = sets store i bs
stored infoRead i bs store = store

-- what a step reads from: the store, or the info area that it has
unfoldable pub source : Kind → List ℕ → List ℕ → List ℕ
source read bs store = store
source write bs store = store
source infoRead bs store = bs

-- the store after a step, and the bytes that the step reads
unfoldable pub after : Step → List ℕ → List ℕ
after s store = stored s.kind (at s) s.bytes store

unfoldable pub seen : Step → List ℕ → List ℕ
seen s store = take (answered s.kind s.space) (drop (at s) (source s.kind s.bytes store))

-- the same of a list of steps, done in order
unfoldable pub store_after : List Step → List ℕ → List ℕ
store_after [] store = store
store_after (s ∷ ss) store = store_after ss (after s store)

unfoldable pub values_read : List Step → List ℕ → List ℕ
values_read [] store = []
values_read (s ∷ ss) store = seen s store ++ values_read ss (after s store)

-- how many bytes the steps' reply has
unfoldable pub reply_bytes : List Step → ℕ
reply_bytes [] = 0
reply_bytes (s ∷ ss) = answered s.kind s.space + reply_bytes ss

-- The unlock cell: address 0x1A of space 6. Each element written there opens the unlock if the value is 0x5A02, and
-- closes it otherwise.
unfoldable pub is_status : Space → Bool
is_status registers = false
is_status eeprom = false
is_status status = true
is_status information = false
is_status absent = false

unfoldable pub is_write : Kind → Bool
is_write read = false
is_write write = true
is_write infoRead = false

unfoldable pub names_unlock : Step → Bool
names_unlock s = eqb s.address 0x1A && is_status s.space

unfoldable pub unlocked_after : Bool → Step → Bool
unlocked_after open? s = cond (is_write s.kind && names_unlock s) (eqb (number s.bytes) 0x5A02) open?

-- whether the unlock is open after the steps
unfoldable pub unlocked : Bool → List Step → Bool
unlocked open? [] = open?
unlocked open? (s ∷ ss) = unlocked (unlocked_after open? s) ss
