-- What is wrong with a bad line, and with which of its words.
use Rattle.std.specs.Prelude.{ℕ, ◌+◌, ◌-◌, List, [], ◌∷◌, Bool, true, false, ◌||◌, cond, get_or, take, eqb, is_none}
use Rattle.std.specs.Option.{unwrap_or}
use Rattle.text.specs.Find.{same_bytes}
use Rattle.packet.specs.Rules.{first}
use Rattle.list_reason.specs.ListReason.{element_causes, element_named}
use Rattle.cue_text.specs.Words.{lines_of, words_of}
use Rattle.cue_text.specs.Numbers.{Value, space_of, address_of, is_name}
use Rattle.cue_text.specs.Text.{Form, empty, reads, writes, names, unknown, at, called, form_of}
use Rattle.cue_text.specs.declared.fault.Cause.{Cause}
use Rattle.cue_text.specs.declared.fault.Fault.{Fault}

-- the word is counted from 0 in its line
abbrev pub fault : Cause → ℕ → Fault
fault cause word = record { cause = cause; word = word }

-- lines are counted from 1
unfoldable pub line_numbered : ℕ → List ℕ → List ℕ
line_numbered line text = get_or (lines_of text) (line - 1) []

abbrev pub number_in : Value → ℕ
number_in v = unwrap_or v 0

-- 82, of a SPACE that is the word i and an ADDRESS behind it, and of a VALUE behind both
unfoldable pub place_fault : ℕ → List ℕ → Fault
place_fault i s = cond (is_none (space_of s)) (fault Cause.Space i) (fault Cause.Address (i + 1))

unfoldable pub write_fault : List ℕ → List ℕ → Fault
write_fault s a = cond (is_none (space_of s) || is_none (address_of a)) (place_fault 1 s) (fault Cause.Value 3)

-- whether a line, and one of some lines, defines a name
unfoldable pub defines_name : List ℕ → Form → Bool
defines_name n empty = false
defines_name n (reads t) = false
defines_name n (writes t v) = false
defines_name n (names m s a) = same_bytes m n
defines_name n unknown = false

unfoldable pub defined : List ℕ → List (List ℕ) → Bool
defined n [] = false
defined n (l ∷ ls) = defines_name n (form_of (words_of l)) || defined n ls

-- 83, of a name that is used, and of one that is defined below some lines
unfoldable pub used_fault : List ℕ → Fault
used_fault n = cond (is_name n) (fault Cause.NotDefined 1) (fault Cause.NoName 1)

unfoldable pub defined_fault : List (List ℕ) → List ℕ → Fault
defined_fault above n = cond (is_name n) (cond (defined n above) (fault Cause.Again 1) (fault Cause.TooMany 1)) (fault Cause.NoName 1)

-- the causes of 23, by their numbers in a list
unfoldable pub cause_numbered : ℕ → Cause
cause_numbered n =
    cond (eqb n 1) Cause.NoSpace
    (cond (eqb n 2) Cause.Misaligned
    (cond (eqb n 3) Cause.PastEnd (cond (eqb n 4) Cause.ReadOnly (cond (eqb n 5) Cause.Unlock Cause.PacketCount))))

-- 23, by the first of its causes: the SPACE, which is the word i, or the ADDRESS behind it
unfoldable pub element_fault : Bool → ℕ → ℕ → ℕ → Fault
element_fault write? i s a =
    let n = first (element_causes (element_named write? s a)) in fault (cause_numbered n) (cond (eqb n 1) i (i + 1))

-- 24 is a value's. Of a name that is known the read passes 23, so that only a write can break it: its cell is read only.
unfoldable pub form_fault : ℕ → List (List ℕ) → Form → Fault
form_fault n above empty = fault Cause.Form 0
form_fault n above (reads (at s a)) =
    cond (eqb n 82) (place_fault 1 s) (element_fault false 1 (number_in (space_of s)) (number_in (address_of a)))
form_fault n above (reads (called w)) = used_fault w
form_fault n above (writes (at s a) v) =
    cond (eqb n 82) (write_fault s a)
    (cond (eqb n 24) (fault Cause.TooWide 3) (element_fault true 1 (number_in (space_of s)) (number_in (address_of a))))
form_fault n above (writes (called w) v) =
    cond (eqb n 82) (fault Cause.Value 2)
    (cond (eqb n 83) (used_fault w) (cond (eqb n 24) (fault Cause.TooWide 2) (fault Cause.ReadOnly 1)))
form_fault n above (names w s a) =
    cond (eqb n 82) (place_fault 2 s)
    (cond (eqb n 83) (defined_fault above w) (element_fault false 2 (number_in (space_of s)) (number_in (address_of a))))
form_fault n above unknown = fault Cause.Form 0

-- of a line that is refused with this number
unfoldable pub fault_of : ℕ → ℕ → List ℕ → Fault
fault_of n line text =
    cond (eqb n 21) (fault Cause.Records 0)
    (form_fault n (take (line - 1) (lines_of text)) (form_of (words_of (line_numbered line text))))

-- the word at fault
unfoldable pub fault_word : ℕ → ℕ → List ℕ → List ℕ
fault_word n line text = get_or (words_of (line_numbered line text)) (fault_of n line text).word []
