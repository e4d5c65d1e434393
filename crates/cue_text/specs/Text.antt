-- What a line of a text says.
use Rattle.std.specs.Prelude.{ℕ, zero, suc, List, [], ◌∷◌, ◌++◌, Bool, true, false, not, ◌||◌, cond, length, eqb, Some, None}
use Rattle.text.specs.Number.{ascii}
use Rattle.text.specs.Find.{same_bytes}
use Rattle.lbp16.specs.Space.{space_of as space}
use Rattle.packet.specs.Bytes.{bytes_of}
use Rattle.packet.specs.Step.{Step, carried}
use Rattle.packet.specs.Rules.{first}
use Rattle.packet.specs.Command.{pick_kind}
use Rattle.cue.specs.Records.{read_mark, write_mark, record_refusals}
use Rattle.cue_text.specs.Numbers.{Value, space_of, address_of, value_of, is_name}
use Rattle.cue_text.specs.Words.{words_of}
use Rattle.cue_text.specs.declared.line.Cue.{Cue}

-- what is read or written: SPACE ADDRESS, or NAME
pub data Target : Type 0 where
  at : List ℕ → List ℕ → Target
  called : List ℕ → Target

-- the five forms, by the first word and the number of words
pub data Form : Type 0 where
  empty : Form
  reads : Target → Form
  writes : Target → List ℕ → Form
  names : List ℕ → List ℕ → List ℕ → Form
  unknown : Form

unfoldable pub read_form : List (List ℕ) → Form
read_form [] = unknown
read_form (n ∷ []) = reads (called n)
read_form (s ∷ a ∷ []) = reads (at s a)
read_form (s ∷ a ∷ w ∷ ws) = unknown

unfoldable pub write_form : List (List ℕ) → Form
write_form [] = unknown
write_form (n ∷ []) = unknown
write_form (n ∷ v ∷ []) = writes (called n) v
write_form (s ∷ a ∷ v ∷ []) = writes (at s a) v
write_form (s ∷ a ∷ v ∷ w ∷ ws) = unknown

unfoldable pub name_form : List (List ℕ) → Form
name_form [] = unknown
name_form (n ∷ []) = unknown
name_form (n ∷ s ∷ []) = unknown
name_form (n ∷ s ∷ a ∷ []) = names n s a
name_form (n ∷ s ∷ a ∷ w ∷ ws) = unknown

unfoldable pub form_of : List (List ℕ) → Form
form_of [] = empty
form_of (w ∷ ws) =
    cond (same_bytes w (ascii "read")) (read_form ws)
    (cond (same_bytes w (ascii "write")) (write_form ws) (cond (same_bytes w (ascii "name")) (name_form ws) unknown))

-- a space's number and an address; none is a word that is no such thing, or a name that is not known
pub data Place : Type 0 where
  nowhere : Place
  place : ℕ → ℕ → Place

unfoldable pub place_by : Value → Value → Place
place_by None a = nowhere
place_by (Some s) None = nowhere
place_by (Some s) (Some a) = place s a

-- a name that is defined
pub record Name : Type 0 where
  pub name : List ℕ
  pub space : ℕ
  pub address : ℕ

-- where a name stands, of those defined above
unfoldable pub place_of : List ℕ → List Name → Place
place_of w [] = nowhere
place_of w (x ∷ xs) = cond (same_bytes x.name w) (place x.space x.address) (place_of w xs)

unfoldable pub is_known : Place → Bool
is_known nowhere = false
is_known (place s a) = true

-- the most names that a text may define
abbrev pub most_names : ℕ
most_names = 1000

-- A line's record: a read has the value 0. Its bytes in a cue list, and the step that it is.
unfoldable pub bytes_of_cue : Cue → List ℕ
bytes_of_cue c =
    bytes_of 2 (cond c.write write_mark read_mark) ++ (c.space ∷ 0 ∷ []) ++ bytes_of 2 c.address
    ++ cond c.write (bytes_of 4 c.value) []

unfoldable pub step_of : Cue → Step
step_of c =
    let k = pick_kind c.write in
    let s = space c.space in
    record { kind = k; space = s; address = c.address; bytes = bytes_of (carried k s) c.value }

abbrev pub read_of : ℕ → ℕ → Cue
read_of s a = record { write = false; space = s; address = a; value = 0 }

abbrev pub write_of : ℕ → ℕ → ℕ → Cue
write_of s a v = record { write = true; space = s; address = a; value = v }

-- What a line says: nothing, a name, or a record; or its refusal, the first that holds.
pub data Meaning : Type 0 where
  refused : ℕ → Meaning
  nothing : Meaning
  defines : Name → Meaning
  does : Cue → Meaning

abbrev pub unless : ℕ → Meaning → Meaning
unless zero m = m
unless (suc n) m = refused (suc n)

-- 21, 23, 24: the record with this index, as the compiler would refuse it
unfoldable pub record_meaning : ℕ → Cue → Meaning
record_meaning index c = unless (first (record_refusals index (bytes_of_cue c))) (does c)

-- `n` is refusal 82 where SPACE and ADDRESS stand, and 83 for a name
unfoldable pub read_meaning : ℕ → Place → ℕ → Meaning
read_meaning n nowhere index = refused n
read_meaning n (place s a) index = record_meaning index (read_of s a)

unfoldable pub write_meaning : ℕ → Place → Value → ℕ → Meaning
write_meaning n p None index = refused 82
write_meaning n nowhere (Some v) index = refused n
write_meaning n (place s a) (Some v) index = record_meaning index (write_of s a v)

-- A name is held against 23 as a read, and as a list's first record, so that 21 plays no part.
unfoldable pub name_meaning : List ℕ → Place → List Name → Meaning
name_meaning n nowhere known = refused 82
name_meaning n (place s a) known =
    cond (not (is_name n) || is_known (place_of n known) || eqb (length known) most_names) (refused 83)
    (unless (first (record_refusals 0 (bytes_of_cue (read_of s a)))) (defines (record { name = n; space = s; address = a })))

unfoldable pub form_meaning : List Name → ℕ → Form → Meaning
form_meaning known index empty = nothing
form_meaning known index (reads (at s a)) = read_meaning 82 (place_by (space_of s) (address_of a)) index
form_meaning known index (reads (called n)) = read_meaning 83 (place_of n known) index
form_meaning known index (writes (at s a) v) = write_meaning 82 (place_by (space_of s) (address_of a)) (value_of v) index
form_meaning known index (writes (called n) v) = write_meaning 83 (place_of n known) (value_of v) index
form_meaning known index (names n s a) = name_meaning n (place_by (space_of s) (address_of a)) known
form_meaning known index unknown = refused 81

-- with the names known above it, and so many records above it
unfoldable pub line_meaning : List Name → ℕ → List ℕ → Meaning
line_meaning known index line = form_meaning known index (form_of (words_of line))
