-- Which refusals a text may get.
use Prim.Native.Nat.{ℕ, zero, suc}
use mathlib.Core.Path.{◌≡◌, refl, sym}
use mathlib.Core.Logic.{◌≢◌}
use mathlib.Core.List.{List, [], ◌∷◌, ◌++◌}
use mathlib.Core.Bool.{Bool, true, false, not, ◌&&◌, ◌||◌, cond}
use native.Mathlib.Omega.{arith}
use lib.ListN.{length, get_or, drop}
use lib.Dec.{eqb, ltb}
use borrow.Author.Tests.{eqb-false}
use Rattle.lbp16.proofs.BoolLaws.{or_false}
use Rattle.lbp16.specs.Answer.{Answer}
use Rattle.packet.specs.Bytes.{bytes_of, number}
use Rattle.packet.specs.Step.{is_write}
use Rattle.packet.specs.Rules.{first}
use Rattle.cue.specs.Records.{mark_at, read_mark, write_mark, record_kind, record_bytes, record_step, bad_element, upper_half, most_records, record_refusals}
use Rattle.std.proofs.Common.{Some, None}
use Rattle.cue_text.specs.Numbers.{Value, space_of, address_of, value_of, is_name}
use Rattle.cue_text.specs.Words.{lines_of, words_of}
use Rattle.cue_text.specs.Text.{Form, empty, reads, writes, names, unknown, at, called, form_of, Place, nowhere, place, place_by, place_of, is_known}
use Rattle.cue_text.specs.Text.{Name, most_names, bytes_of_cue, read_of, write_of, Meaning, refused, nothing, defines, does, unless}
use Rattle.cue_text.specs.Text.{record_meaning, read_meaning, write_meaning, name_meaning, form_meaning, line_meaning}
use Rattle.cue_text.specs.Assembled.{Assembled, bad, cues, with_cue, known_after, index_after, with_line, assembled_from, assembled, list_of}
use Rattle.cue_text.specs.Assembled.{Left, placed, assembled_to, text_assembled}
use Rattle.cue_text.specs.declared.line.Cue.{Cue}

-- the refusals of a line
pub data OfLine : ℕ → Type 0 where
  no_form : OfLine 81
  no_number : OfLine 82
  no_name : OfLine 83
  many : OfLine 21
  element : OfLine 23
  wide : OfLine 24

pub of-line_some : {n : ℕ} → OfLine n → n ≢ 0
of-line_some OfLine.no_form = omega arith
of-line_some OfLine.no_number = omega arith
of-line_some OfLine.no_name = omega arith
of-line_some OfLine.many = omega arith
of-line_some OfLine.element = omega arith
of-line_some OfLine.wide = omega arith

-- a line's record is whole and has a mark, so that it is never refused with 22
whole_of : (t : Bool) (s a v : ℕ)
    → let rest = bytes_of_cue (record { write = t; space = s; address = a; value = v }) in
    ((not (eqb (mark_at rest) read_mark) && not (eqb (mark_at rest) write_mark)) || ltb (length rest) (record_bytes (record_kind rest))) ≡ false
unfolding bytes_of_cue mark_at number record_bytes record_kind is_write bytes_of
whole_of true s a v = refl
whole_of false s a v = refl

of_three : (a c d : Bool) (n : ℕ) → cond a 21 (cond c 23 (cond d 24 0)) ≡ n → n ≢ 0 → OfLine n
of_three true c d n e h = rw (← e) OfLine.many
of_three false true d n e h = rw (← e) OfLine.element
of_three false false true n e h = rw (← e) OfLine.wide
of_three false false false n e h = absurd (h (sym e))

of_record : (index : ℕ) (c : Cue) (n : ℕ) → first (record_refusals index (bytes_of_cue c)) ≡ n → n ≢ 0 → OfLine n
unfolding record_refusals first
of_record index c n e h =
    let rest = bytes_of_cue c in
    of_three (eqb index most_records) (bad_element (record_step rest))
    (not (eqb (get_or rest 3 0) 0) || (is_write (record_kind rest) && not (eqb (upper_half rest) 0))) n
    (rw (whole_of c.write c.space c.address c.value) at e) h

-- What is known of a line by what it says: its refusal's number, that one more name was free, or that no rule refuses its record.
abbrev pub Means : List Name → ℕ → Meaning → Type 0
Means known index (refused n) = OfLine n
Means known index nothing = Unit
Means known index (defines x) = length known ≢ most_names
Means known index (does c) = first (record_refusals index (bytes_of_cue c)) ≡ 0

module _ (known : List Name) (index : ℕ) where
  record_means : (c : Cue) → Means known index (record_meaning index c)
  unfolding record_meaning
  record_means c = go (first (record_refusals index (bytes_of_cue c))) refl
    where
      go : (k : ℕ) → first (record_refusals index (bytes_of_cue c)) ≡ k → Means known index (unless k (does c))
      go zero e = e
      go (suc k) e = of_record index c (suc k) e (omega arith)

  read-means : (n : ℕ) (p : Place) → OfLine n → Means known index (read_meaning n p index)
  unfolding read_meaning
  read-means n nowhere o = o
  read-means n (place s a) o = record_means (read_of s a)

  write-means : (n : ℕ) (p : Place) (v : Value) → OfLine n → Means known index (write_meaning n p v index)
  unfolding write_meaning
  write-means n p None o = OfLine.no_number
  write-means n nowhere (Some v) o = o
  write-means n (place s a) (Some v) o = record_means (write_of s a v)

  name-means : (w : List ℕ) (p : Place) → Means known index (name_meaning w p known)
  unfolding name_meaning
  name-means w nowhere = OfLine.no_number
  name-means w (place s a) =
      go (not (is_name w) || is_known (place_of w known) || eqb (length known) most_names) refl
      (first (record_refusals 0 (bytes_of_cue (read_of s a)))) refl
    where
      x : Name
      x = record { name = w; space = s; address = a }

      go : (t : Bool) → (not (is_name w) || is_known (place_of w known) || eqb (length known) most_names) ≡ t
          → (k : ℕ) → first (record_refusals 0 (bytes_of_cue (read_of s a))) ≡ k → Means known index (cond t (refused 83) (unless k (defines x)))
      go true e k f = OfLine.no_name
      go false e zero f = eqb-false _ _ (or_false (not (is_name w) || is_known (place_of w known)) _ e).1
      go false e (suc k) f = of_record 0 (read_of s a) (suc k) f (omega arith)

  form_means : (f : Form) → Means known index (form_meaning known index f)
  unfolding form_meaning
  form_means empty = tt
  form_means (reads (at s a)) = read-means 82 (place_by (space_of s) (address_of a)) OfLine.no_number
  form_means (reads (called w)) = read-means 83 (place_of w known) OfLine.no_name
  form_means (writes (at s a) v) = write-means 82 (place_by (space_of s) (address_of a)) (value_of v) OfLine.no_number
  form_means (writes (called w) v) = write-means 83 (place_of w known) (value_of v) OfLine.no_name
  form_means (names w s a) = name-means w (place_by (space_of s) (address_of a))
  form_means unknown = OfLine.no_form

  pub line-means : (l : List ℕ) → Means known index (line_meaning known index l)
  unfolding line_meaning
  line-means l = form_means (form_of (words_of l))

-- and of a text from a line on
abbrev Gives : Assembled → Type 0
Gives (bad n k) = OfLine n
Gives (cues cs) = Unit

with_cue_lem : (c : Cue) (a : Assembled) → Gives a → Gives (with_cue c a)
unfolding with_cue
with_cue_lem c (bad n k) g = g
with_cue_lem c (cues cs) g = tt

with_line_lem : (known : List Name) (index : ℕ) (m : Meaning) (k : ℕ) (below : Assembled) → Means known index m → Gives below
    → Gives (with_line m k below)
unfolding with_line
with_line_lem known index (refused n) k below m g = m
with_line_lem known index nothing k below m g = g
with_line_lem known index (defines x) k below m g = g
with_line_lem known index (does c) k below m g = with_cue_lem c below g

gives : (ls : List (List ℕ)) (known : List Name) (index k : ℕ) → Gives (assembled_from known index k ls)
unfolding assembled_from
gives [] known index k = tt
gives (l ∷ ls) known index k =
    let m = line_meaning known index l in
    with_line_lem known index m k (assembled_from (known_after m known) (index_after m index) (suc k) ls) (line-means known index l)
    (gives ls (known_after m known) (index_after m index) (suc k))

-- the refusals of a text
pub data OfText : ℕ → Type 0 where
  line : {n : ℕ} → OfLine n → OfText n
  room : OfText 26

abbrev Refuses : Answer → Type 0
Refuses (Answer.accepted values) = Unit
Refuses (Answer.refused n k) = OfText n

to-refuses : (a : Assembled) (out : List ℕ) → Gives a → Refuses (assembled_to a out).answer
unfolding assembled_to placed
to-refuses (bad n k) out g = OfText.line g
to-refuses (cues cs) out g = go (ltb (length out) (length (list_of cs)))
  where
    small : Left
    small = record { answer = Answer.refused 26 (length (list_of cs)); room = out }

    whole : Left
    whole = record { answer = Answer.accepted (length (list_of cs) ∷ length cs ∷ []); room = list_of cs ++ drop (length (list_of cs)) out }

    go : (t : Bool) → Refuses (cond t small whole).answer
    go true = OfText.room
    go false = tt

-- Every refusal of a text is one of 81 to 83, 21, 23 and 24, at a line, or 26.
pub text-refusal : (text out : List ℕ) (n k : ℕ) → (text_assembled text out).answer ≡ Answer.refused n k → OfText n
unfolding text_assembled assembled
text-refusal text out n k e = rw e at (to-refuses (assembled_from [] 0 1 (lines_of text)) out (gives (lines_of text) [] 0 1))
