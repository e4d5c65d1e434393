-- One command of a packet: what is found at it, from the packet's bytes from that command on.
use Rattle.std.specs.Prelude.{ℕ, zero, suc, ◌+◌, ◌*◌, List, [], ◌∷◌, Bool, false, not, ◌||◌, ◌&&◌, cond, length, take, drop, eqb, ltb}
use Rattle.lbp16.specs.Space.{Space, space_of, is_absent}
use Rattle.lbp16.specs.Word.{bit, fields_of}
use Rattle.lbp16.specs.Answer.{Answer, rule_number}
use Rattle.lbp16.specs.Pointer.{pointer_of, with_pointer}
use Rattle.lbp16.specs.Info.{area_words}
use Rattle.lbp16.specs.declared.space.Row.{Row}
use Rattle.lbp16.specs.declared.word.Fields.{Fields}
use Rattle.lbp16.specs.declared.pointer.Pointers.{Pointers}
use Rattle.packet.specs.Bytes.{number, pairs_of}
use Rattle.packet.specs.Step.{Kind, read, write, infoRead, Step, is_info, is_write, row_by, carried, answered}
use Rattle.packet.specs.Rules.{Rule, first, misaligned, past_end, barred, any_step}
use Rattle.packet.specs.declared.command.Found.{Found}
use Rattle.packet.specs.declared.command.Which.{Which}
use Rattle.packet.specs.declared.command.Which.TheVariants.{Read, Write, Refused}

-- the most bytes that a packet or its reply may have: 1,500 less 28 of IP and UDP headers
abbrev pub limit : ℕ
limit = 1472

-- the fields of the word at the front; all 0 where it is cut off
unfoldable pub fields_at : List ℕ → Fields
fields_at rest = cond (ltb (length rest) 2) (fields_of 0) (fields_of (number (take 2 rest)))

abbrev pub pick_kind : Bool → Kind
pick_kind write? = cond write? write read

-- An info write is refused, so that it counts as a write does not matter.
unfoldable pub kind_of : Fields → Kind
kind_of f = cond f.write write (cond f.info infoRead read)

-- the table's line for the command, by its info bit and its space
unfoldable pub row_of : Fields → Row
row_of f = row_by (kind_of f) (space_of f.space)

-- the bytes of word and address, and those of the whole command
unfoldable pub header_bytes : Fields → ℕ
header_bytes f = cond f.address 4 2

unfoldable pub command_bytes : Fields → ℕ
command_bytes f = header_bytes f + f.count * carried (kind_of f) (space_of f.space)

-- the address used: the one given, or the pointer's
abbrev pub address_by : Fields → List ℕ → ℕ → ℕ
address_by f rest pointer = cond f.address (number (take 2 (drop 2 rest))) pointer

unfoldable pub address_used : Pointers → Fields → List ℕ → ℕ
address_used p f rest = address_by f rest (pointer_of p (is_info (kind_of f)) (space_of f.space))

-- from one element to the next
unfoldable pub stride : Fields → ℕ
stride f = cond f.increment (row_of f).element 0

-- what a step has of the bytes that are handed to its element
unfoldable pub payload : Kind → Space → List ℕ → List ℕ
payload read s bytes = []
payload write s bytes = take (carried write s) bytes
payload infoRead s bytes = bytes

-- n elements from address a on, d apart
unfoldable pub elements : Kind → Space → ℕ → ℕ → ℕ → List ℕ → List Step
elements k s zero a d bytes = []
elements k s (suc n) a d bytes =
    record { kind = k; space = s; address = a; bytes = payload k s bytes }
    ∷ elements k s n (a + d) d (drop (carried k s) bytes)

-- a space's info area while its pointer stands at n
unfoldable pub bytes_of_area : Space → ℕ → List ℕ
bytes_of_area s n = pairs_of (area_words s n)

-- What the elements are handed: an info read the area with the pointer as it stands before the command, a plain command the
-- bytes that follow its header.
unfoldable pub handed : Pointers → Fields → List ℕ → List ℕ
handed p f rest =
    let s = space_of f.space in
    cond (is_info (kind_of f)) (bytes_of_area s (pointer_of p false s)) (drop (header_bytes f) rest)

unfoldable pub steps_at : Pointers → Fields → List ℕ → List Step
steps_at p f rest =
    elements (kind_of f) (space_of f.space) f.count (address_used p f rest) (stride f) (handed p f rest)

-- Refusal 8: the address used is misaligned, or some element stands past the end.
unfoldable pub out_of_place : Pointers → Fields → List ℕ → Bool
out_of_place p f rest = misaligned (row_of f) (address_used p f rest) || any_step past_end (steps_at p f rest)

-- Refusals 3 to 12. `open?`: whether the unlock is open; `reply`: the reply's bytes so far.
unfoldable pub refusals : Pointers → Bool → ℕ → Fields → List ℕ → List Rule
refusals p open? reply f rest =
    let s = space_of f.space in
    let k = kind_of f in
    record { number = 3; holds = ltb (length rest) (header_bytes f) }
    ∷ record { number = 4; holds = f.info && f.write }
    ∷ record { number = 5; holds = is_absent s }
    ∷ record { number = 6; holds = not (eqb f.size (row_of f).size) }
    ∷ record { number = 7; holds = eqb f.count 0 }
    ∷ record { number = 8; holds = out_of_place p f rest }
    ∷ record { number = 9; holds = any_step barred (steps_at p f rest) }
    ∷ record { number = 10; holds = f.write && (row_of f).locked && not open? }
    ∷ record { number = 11; holds = ltb (length rest) (command_bytes f) }
    ∷ record { number = 12; holds = ltb limit (reply + f.count * answered k s) }
    ∷ []

-- which of read, write or refusal: the write bit of the command word, or the refusal's number and its place
unfoldable pub which_of : ℕ → ℕ → Kind → Answer
which_of zero place k = Answer.accepted (bit (is_write k) ∷ [])
which_of (suc n) place k = Answer.refused (suc n) place

-- What is found at a command: its fields, its place, and which of read, write or refusal it is.
pub record Finding : Type 0 where
  pub fields : Fields
  pub place : ℕ
  pub which : Answer

unfoldable pub found : Pointers → Bool → ℕ → ℕ → List ℕ → Finding
found p open? reply place rest =
    let f = fields_at rest in
    record { fields = f; place = place; which = which_of (first (refusals p open? reply f rest)) place (kind_of f) }

-- the same as the code has it: its number and values, for each case
unfoldable pub which_listed : Which → ℕ → Answer
which_listed Read place = Answer.accepted (0 ∷ [])
which_listed Write place = Answer.accepted (1 ∷ [])
which_listed (Refused r) place = Answer.refused (rule_number r) place

unfoldable pub found_listed : Found → Finding
found_listed x = record { fields = x.fields; place = x.place; which = which_listed x.which x.place }

-- A command sets the pointer of its space, or of its info area, to the address, and with increment moves it past all
-- elements.
unfoldable pub pointers_after : Pointers → Fields → List ℕ → Pointers
pointers_after p f rest =
    with_pointer p (is_info (kind_of f)) (space_of f.space) (address_used p f rest + f.count * stride f)
