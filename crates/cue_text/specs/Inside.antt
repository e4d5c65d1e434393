-- The inside of private functions' contracts.
use Rattle.std.specs.Prelude.{ℕ, suc, ◌+◌, ◌-◌, ◌*◌, ◌/◌, ◌%◌, min, ◌≤◌, ◌<◌, ◌^◌, ◌≡◌, List, [], ◌∷◌}
use Rattle.std.specs.Prelude.{◌++◌, map, Bool, not, ◌||◌, ◌&&◌, cond, length, get_or, set, take, drop, eqb, ltb, Option, Some, None, Result, Ok, Err}
use Rattle.std.proofs.lemmas.List.Edits.{sets}
use Rattle.text.specs.Number.{ascii}
use Rattle.text.specs.Find.{bytes_before, same_bytes}
use Rattle.lbp16.specs.Answer.{Answer, rule_number}
use Rattle.lbp16.specs.declared.Rule.{Rule}
use Rattle.packet.specs.Bytes.{bytes_of}
use Rattle.packet.specs.Command.{pick_kind}
use Rattle.cue.specs.Records.{read_mark, write_mark, record_bytes}
use Rattle.cue_text.specs.Words.{newline, comment_mark, is_blank, closed}
use Rattle.cue_text.specs.Numbers.{space_of, address_of}
use Rattle.cue_text.specs.Text.{Place, nowhere, place, Name, Form, empty, reads, writes, names, unknown, at, called}
use Rattle.cue_text.specs.Text.{most_names, Meaning, refused, nothing, defines, does, bytes_of_cue}
use Rattle.cue_text.specs.Assembled.{Assembled, bad, cues, list_of}
use Rattle.cue_text.specs.Fault.{number_in, fault, cause_numbered}
use Rattle.cue_text.specs.declared.fault.Fault.{Fault}
use Rattle.cue_text.specs.declared.word.Word.{Word}
use Rattle.cue_text.specs.declared.word.Words.{Words}
use Rattle.cue_text.specs.declared.known.Located.{Located}
use Rattle.cue_text.specs.declared.line.Cue.{Cue}
use Rattle.cue_text.specs.declared.line.Shape.{Shape}
use Rattle.cue_text.specs.declared.line.Said.{Said}
use Rattle.cue_text.specs.declared.walk.Tally.{Tally}

-- the line that stands at a place, and the place behind it
unfoldable pub line_at : List ℕ → ℕ → List ℕ
line_at text k = take (bytes_before newline (drop k text)) (drop k text)

unfoldable pub line_bytes : List ℕ → ℕ
line_bytes rest = min (suc (bytes_before newline rest)) (length rest)

-- the words of the first line, found in the text from it on
unfoldable pub ends_line : ℕ → Bool
ends_line b = eqb b newline || eqb b comment_mark

unfoldable pub words_here : List ℕ → List ℕ → List (List ℕ)
words_here w [] = closed w []
words_here w (b ∷ bs) =
    cond (is_blank b) (closed w (words_here [] bs)) (cond (ends_line b) (closed w []) (words_here (w ++ (b ∷ [])) bs))

-- how many bytes at the front pass a test: blanks, and the bytes of a word
unfoldable pub front_bytes : (ℕ → Bool) → List ℕ → ℕ
front_bytes f [] = 0
front_bytes f (b ∷ bs) = cond (f b) (suc (front_bytes f bs)) 0

unfoldable pub ends_word : ℕ → Bool
ends_word b = is_blank b || ends_line b

unfoldable pub in_word : ℕ → Bool
in_word b = not (ends_word b)

unfoldable pub blanks : List ℕ → ℕ
blanks s = front_bytes is_blank s

unfoldable pub word_bytes : List ℕ → ℕ
word_bytes s = front_bytes in_word s

-- the next word from a place on, and its bytes
unfoldable pub word_from : List ℕ → ℕ → Word
word_from rest k =
    let from = k + blanks (drop k rest) in
    record { from = from; to = from + word_bytes (drop from rest) }

unfoldable pub word_in : List ℕ → Word → List ℕ
word_in rest w = take (w.to - w.from) (drop w.from rest)

-- 1 for a word, 0 where there is none
unfoldable pub word_count : Word → ℕ
word_count w = cond (ltb w.from w.to) 1 0

-- the first line's words, as they are held
pub record HoldsWords (rest : List ℕ) (w : Words) : Type 0 where
  pub count : w.count ≡ min 5 (length (words_here [] rest))
  pub first : word_in rest w.first ≡ get_or (words_here [] rest) 0 []
  pub second : word_in rest w.second ≡ get_or (words_here [] rest) 1 []
  pub third : word_in rest w.third ≡ get_or (words_here [] rest) 2 []
  pub fourth : word_in rest w.fourth ≡ get_or (words_here [] rest) 3 []
  pub behind : words_here [] (drop w.second.from rest) ≡ drop 1 (words_here [] rest)
  pub within : w.second.from ≤ length rest

-- the most that 32 bits hold
abbrev pub most_held : ℕ
most_held = 4294967295

unfoldable pub located : Place → Option Located
located nowhere = None
located (place s a) = Some (record { space = s; address = a })

-- a place that was found, as a place
unfoldable pub place_in : Option Located → Place
place_in None = nowhere
place_in (Some p) = place p.space p.address

-- The name whose definition's second word stands at a place of the text.
unfoldable pub name_by : List (List ℕ) → Name
name_by ws =
    record { name = get_or ws 0 []; space = number_in (space_of (get_or ws 1 [])); address = number_in (address_of (get_or ws 2 [])) }

unfoldable pub defined_at : List ℕ → ℕ → Name
defined_at text k = name_by (words_here [] (drop k text))

-- A name is kept as one number: its place in the text, its bytes less one, its space and its address. One that is defined at or behind
-- `near` is kept as `far` and its place, and is read again from there.
abbrev pub near : ℕ
near = 2 ^ 39

abbrev pub far : ℕ
far = 2 ^ 63

unfoldable pub kept_near : ℕ → ℕ → ℕ → ℕ → ℕ
kept_near k n s a = 16777216 * k + 524288 * (n - 1) + 65536 * s + a

unfoldable pub is_near : ℕ → ℕ → ℕ → Bool
is_near k n s = ltb k near && ltb 0 n && ltb n 33 && ltb s 8

unfoldable pub kept : ℕ → ℕ → ℕ → ℕ → ℕ
kept k n s a = cond (is_near k n s) (kept_near k n s a) (far + k)

unfoldable pub near_name : List ℕ → ℕ → Name
near_name text x =
    record { name = take (x / 524288 % 32 + 1) (drop (x / 16777216) text); space = x / 65536 % 8; address = x % 65536 }

unfoldable pub name_at : List ℕ → ℕ → Name
name_at text x = cond (ltb x far) (near_name text x) (defined_at text (x - far))

-- where a name stands
unfoldable pub stands : Name → Located
stands x = record { space = x.space; address = x.address }

unfoldable pub names_at : List ℕ → List ℕ → List Name
names_at text table = map (name_at text) table

-- the form that a first word and a number of words make, and the form itself with the other words
unfoldable pub read_shape : ℕ → Shape
read_shape count = cond (eqb count 2) Shape.ReadName (cond (eqb count 3) Shape.ReadAt Shape.Unknown)

unfoldable pub write_shape : ℕ → Shape
write_shape count = cond (eqb count 3) Shape.WriteName (cond (eqb count 4) Shape.WriteAt Shape.Unknown)

unfoldable pub name_shape : ℕ → Shape
name_shape count = cond (eqb count 4) Shape.Names Shape.Unknown

unfoldable pub shape_of : List ℕ → ℕ → Shape
shape_of w count =
    cond (eqb count 0) Shape.Empty
    (cond (same_bytes w (ascii "read")) (read_shape count)
    (cond (same_bytes w (ascii "write")) (write_shape count) (cond (same_bytes w (ascii "name")) (name_shape count) Shape.Unknown)))

unfoldable pub formed : Shape → List ℕ → List ℕ → List ℕ → Form
formed Shape.Empty b c d = empty
formed Shape.ReadAt b c d = reads (at b c)
formed Shape.ReadName b c d = reads (called b)
formed Shape.WriteAt b c d = writes (at b c) d
formed Shape.WriteName b c d = writes (called b) c
formed Shape.Names b c d = names b c d
formed Shape.Unknown b c d = unknown

-- what the code says of a line, as the line's meaning
unfoldable pub meaning_of : List ℕ → Result Said Rule → Meaning
meaning_of text (Err rule) = refused (rule_number rule)
meaning_of text (Ok Said.Nothing) = nothing
meaning_of text (Ok (Said.Defines k)) = defines (name_at text k)
meaning_of text (Ok (Said.Does c)) = does c

-- a record's bytes with room for a value behind a read
unfoldable pub ten_bytes : Cue → List ℕ
ten_bytes c = bytes_of 2 (cond c.write write_mark read_mark) ++ (c.space ∷ 0 ∷ []) ++ bytes_of 2 c.address ++ bytes_of 4 c.value

-- the words of a line that stands at a place of the text
pub record LineHere (text : List ℕ) (k : ℕ) (rest : List ℕ) (w : Words) : Type 0 where
  pub rest-is : rest ≡ drop k text
  pub words : HoldsWords rest w
  pub within : k ≤ length text

-- the counts, the table of names and the room behind a line
unfoldable pub tallied : Tally → Said → Tally
tallied t Said.Nothing = record { lines = t.lines + 1; names = t.names; bytes = t.bytes; records = t.records }
tallied t (Said.Defines k) = record { lines = t.lines + 1; names = t.names + 1; bytes = t.bytes; records = t.records }
tallied t (Said.Does c) =
    record { lines = t.lines + 1; names = t.names; bytes = t.bytes + record_bytes (pick_kind c.write); records = t.records + 1 }

unfoldable pub table_after : Said → ℕ → List ℕ → List ℕ
table_after Said.Nothing count table = table
table_after (Said.Defines k) count table = set table count k
table_after (Said.Does c) count table = table

unfoldable pub room_after : Said → ℕ → List ℕ → List ℕ
room_after Said.Nothing bytes room = room
room_after (Said.Defines k) bytes room = room
room_after (Said.Does c) bytes room = sets room bytes (bytes_of_cue c)

-- they can be counted on, and the table has a place free for a name
pub record Roomy (t : Tally) (said : Said) (table : List ℕ) : Type 0 where
  pub lines : t.lines + 1 < 2 ^ 64
  pub names : t.names ≤ most_names
  pub bytes : t.bytes + 10 < 2 ^ 64
  pub records : t.records + 1 < 2 ^ 64
  pub free : (k : ℕ) → said ≡ Said.Defines k → t.names < length table

-- the answer to a text, before its room is looked at
unfoldable pub answered : Assembled → Answer
answered (bad n line) = Answer.refused n line
answered (cues cs) = Answer.accepted (length (list_of cs) ∷ length cs ∷ [])

-- a line's word by its index, of the four that are held
unfoldable pub word_numbered : Words → ℕ → Word
word_numbered w k = cond (eqb k 0) w.first (cond (eqb k 1) w.second (cond (eqb k 2) w.third w.fourth))

-- 23, by its cause's number
unfoldable pub element_fault_numbered : ℕ → ℕ → Fault
element_fault_numbered i n = fault (cause_numbered n) (cond (eqb n 1) i (i + 1))
