-- From text to cells: an accepted text's lines are the records of its list, so that demand 3 speaks of the lines.
use Prim.Native.Nat.{ℕ, zero, suc, ◌+◌, ◌*◌, ◌≤◌, ◌<◌}
use mathlib.Core.Path.{◌≡◌, refl}
use mathlib.Core.List.{List, [], ◌∷◌, ◌++◌}
use mathlib.Core.Bool.{Bool, true, false, not, ◌||◌, cond}
use native.Mathlib.Omega.{arith}
use native.Mathlib.Nat.{le_refl}
use native.Mathlib.Numerals.{add-one}
use lib.Dec.{eqb, ltb}
use lib.ListN.{length, drop, length-append}
use lib.Seq.{take_at, drop_at}
use borrow.Author.Tests.{ltb-false}
use Rattle.packet.specs.Rules.{first}
use Rattle.cue.specs.Records.{records, records_of, records_from, record_refusals, record_kind, with_record, most_records}
use Rattle.cue.proofs.PackingLaws.{record_bytes_le}
use Rattle.cue.proofs.ReadingLaws.{passing}
use Rattle.cue.specs.Compile.{packed, output}
use Rattle.cue.proofs.RecordLaws.{records-good}
use Rattle.cue.proofs.WalkLaws.{records-next, records-end}
use Rattle.cue.proofs.CompileLaws.{accepted_exactly}
use Rattle.cue.proofs.Demand3.{packets_hold, apart-packed}
use Rattle.cue.proofs.RunAll.{run_all}
use Rattle.text.specs.Find.{same_bytes}
use Rattle.std.proofs.Common.{Some, None}
use Rattle.cue_text.specs.Numbers.{Value, number_of, up_to, space_of, address_of, value_of, is_name}
use Rattle.cue_text.specs.Text
use Rattle.cue_text.specs.Text.{Name, Place, nowhere, place, place_by, place_of, is_known, most_names, Meaning, unless, bytes_of_cue, read_of, write_of}
use Rattle.cue_text.specs.Text.{at, called, Form, record_meaning, read_meaning, write_meaning, name_meaning, form_of, form_meaning, line_meaning}
use Rattle.cue_text.specs.Words.{lines_of, words_of}
use Rattle.cue_text.specs.Assembled.{Assembled, bad, cues, with_cue, known_after, index_after, with_line, assembled_from, assembled, list_of, steps_of}
use Rattle.cue_text.specs.TextShow.{TextShow}
use Rattle.cue_text.specs.declared.line.Cue.{Cue}
use Rattle.cue_text.proofs.CueLaws.{list-none, list_cons, cue-front, cue-whole, cue-step, cue-passes, cue-some}

-- an address has two bytes: of a place, of the names known, and of what a line says
abbrev PlaceNear : Place → Type 0
PlaceNear nowhere = Unit
PlaceNear (place s a) = a < 65536

abbrev Near : List Name → Type 0
Near [] = Unit
Near (x ∷ xs) = (x.address < 65536) × Near xs

near-more : (known : List Name) (x : Name) → Near known → x.address < 65536 → Near (known ++ (x ∷ []))
near-more [] x n h = (h, tt)
near-more (y ∷ known) x n h = (n.0, near-more known x n.1 h)

-- a record that a line says, and no rule refuses
abbrev Fine : ℕ → Cue → Type 0
Fine index c = (c.address < 65536) × (first (record_refusals index (bytes_of_cue c)) ≡ 0)

abbrev Sound : ℕ → Meaning → Type 0
Sound index (Text.refused n) = Unit
Sound index Text.nothing = Unit
Sound index (Text.defines x) = x.address < 65536
Sound index (Text.does c) = Fine index c

place-near : (v : Value) (w : List ℕ) → PlaceNear (place_by v (address_of w))
unfolding place_by address_of up_to
place-near v w = go v (number_of w)
  where
    few : (s n : ℕ) (b : Bool) → ltb 65535 n ≡ b → PlaceNear (place_by (Some s) (cond b None (Some n)))
    few s n true e = tt
    few s n false e = let h = ltb-false 65535 n e in omega arith

    go : (v u : Value) → PlaceNear (place_by v (up_to 65535 u))
    go None u = tt
    go (Some s) None = tt
    go (Some s) (Some n) = few s n (ltb 65535 n) refl

name-near : (w : List ℕ) (known : List Name) → Near known → PlaceNear (place_of w known)
unfolding place_of
name-near w [] n = tt
name-near w (x ∷ known) n = go (same_bytes x.name w) (name-near w known n.1)
  where
    go : (b : Bool) → PlaceNear (place_of w known) → PlaceNear (cond b (place x.space x.address) (place_of w known))
    go true p = n.0
    go false p = p

unless-sound : (index n : ℕ) (m : Meaning) → (n ≡ 0 → Sound index m) → Sound index (unless n m)
unless-sound index zero m h = h refl
unless-sound index (suc n) m h = tt

record_sound : (index : ℕ) (c : Cue) → c.address < 65536 → Sound index (record_meaning index c)
unfolding record_meaning
record_sound index c h = unless-sound index (first (record_refusals index (bytes_of_cue c))) (Text.does c) (λ e. (h, e))

read-sound : (n index : ℕ) (p : Place) → PlaceNear p → Sound index (read_meaning n p index)
unfolding read_meaning
read-sound n index nowhere h = tt
read-sound n index (place s a) h = record_sound index (read_of s a) h

write-sound : (n index : ℕ) (p : Place) (v : Value) → PlaceNear p → Sound index (write_meaning n p v index)
unfolding write_meaning
write-sound n index nowhere None h = tt
write-sound n index (place s a) None h = tt
write-sound n index nowhere (Some v) h = tt
write-sound n index (place s a) (Some v) h = record_sound index (write_of s a v) h

name-sound : (index : ℕ) (n : List ℕ) (p : Place) (known : List Name) → PlaceNear p → Sound index (name_meaning n p known)
unfolding name_meaning
name-sound index n nowhere known h = tt
name-sound index n (place s a) known h = go (not (is_name n) || is_known (place_of n known) || eqb (length known) most_names)
  where
    go : (b : Bool)
        → Sound index
        (cond b (Text.refused 83)
        (unless (first (record_refusals 0 (bytes_of_cue (read_of s a)))) (Text.defines (record { name = n; space = s; address = a }))))
    go true = tt
    go false =
        unless-sound index (first (record_refusals 0 (bytes_of_cue (read_of s a)))) (Text.defines (record { name = n; space = s; address = a }))
        (λ e. h)

form_sound : (known : List Name) (index : ℕ) (f : Form) → Near known → Sound index (form_meaning known index f)
unfolding form_meaning
form_sound known index Text.empty n = tt
form_sound known index (Text.reads (at s a)) n = read-sound 82 index _ (place-near (space_of s) a)
form_sound known index (Text.reads (called w)) n = read-sound 83 index _ (name-near w known n)
form_sound known index (Text.writes (at s a) v) n = write-sound 82 index _ (value_of v) (place-near (space_of s) a)
form_sound known index (Text.writes (called w) v) n = write-sound 83 index _ (value_of v) (name-near w known n)
form_sound known index (Text.names w s a) n = name-sound index w _ known (place-near (space_of s) a)
form_sound known index Text.unknown n = tt

line-sound : (known : List Name) (index : ℕ) (l : List ℕ) → Near known → Sound index (line_meaning known index l)
unfolding line_meaning
line-sound known index l n = form_sound known index (form_of (words_of l)) n

-- every record of a good text is fine at its index
abbrev pub AllFine : ℕ → List Cue → Type 0
AllFine index [] = Unit
AllFine index (c ∷ cs) = Fine index c × AllFine (suc index) cs

all-fine : (known : List Name) (index line : ℕ) (ls : List (List ℕ)) (cs : List Cue) → Near known
    → assembled_from known index line ls ≡ cues cs → AllFine index cs
unfolding assembled_from with_line with_cue known_after index_after
all-fine known index line [] cs n e = let q : [] ≡ cs = cc in rw (← q) tt
all-fine known index line (l ∷ ls) cs n e =
    go (line_meaning known index l) (line-sound known index l n) (λ k i. all-fine k i (suc line) ls) e
  where
    go : (m : Meaning) → Sound index m
        → ((k : List Name) (i : ℕ) (ds : List Cue) → Near k → assembled_from k i (suc line) ls ≡ cues ds → AllFine i ds)
        → with_line m line (assembled_from (known_after m known) (index_after m index) (suc line) ls) ≡ cues cs → AllFine index cs
    go (Text.refused k) s more e = let z : ◌≡◌ {A = ℕ} 0 1 = cc in absurd (omega arith)
    go Text.nothing s more e = more known index cs n e
    go (Text.defines x) s more e = more (known ++ (x ∷ [])) index cs (near-more known x n s) e
    go (Text.does c) s more e = next (assembled_from known (suc index) (suc line) ls) (λ ds. more known (suc index) ds n) e
      where
        next : (v : Assembled) → ((ds : List Cue) → v ≡ cues ds → AllFine (suc index) ds) → with_cue c v ≡ cues cs → AllFine index cs
        next (bad k j) later e = let z : ◌≡◌ {A = ℕ} 0 1 = cc in absurd (omega arith)
        next (cues ds) later e = let q : c ∷ ds ≡ cs = cc in rw (← q) (s, later ds refl)

-- Records that are fine are those of their list.
fine-records : (fuel index : ℕ) (cs : List Cue) → length (list_of cs) ≤ fuel → AllFine index cs
    → records_from fuel index (list_of cs) ≡ records (steps_of cs)
unfolding steps_of with_record
fine-records fuel index [] h f = rw (list-none, records-end fuel index) refl
fine-records zero index (c ∷ cs) h f =
    let k : length (bytes_of_cue c) + length (list_of cs) ≤ 0 = rw (list_cons, length-append) at h in
    absurd (omega (arith, cue-some c))
fine-records (suc fuel) index (c ∷ cs) h f =
    let rest = list_of cs in
    let size : length (bytes_of_cue c ++ rest) ≡ length (bytes_of_cue c) + length rest = length-append (bytes_of_cue c) rest in
    let k : length (bytes_of_cue c ++ rest) ≤ suc fuel = rw list_cons at h in
    let some = cue-some c in
    rw (
      list_cons c cs,
      records-next fuel index (bytes_of_cue c ++ rest) (omega arith) (cue-passes c rest index f.0.1),
      cue-front c rest,
      drop_at (bytes_of_cue c) rest (length (bytes_of_cue c)) refl,
      add-one,
      cue-step c rest f.0.0,
      fine-records fuel (suc index) cs (omega arith) f.1,
    )
    refl

-- They have at most ten bytes each, and are at most a hundred thousand.
list-few : (index : ℕ) (cs : List Cue) → index ≤ most_records → AllFine index cs → length (list_of cs) + 10 * index ≤ 10 * most_records
list-few index [] few f = rw list-none (omega arith)
list-few index (c ∷ cs) few f =
    let other = (passing index (bytes_of_cue c) f.0.1).few in
    let size = cue-whole c in
    let ten = record_bytes_le (record_kind (bytes_of_cue c)) in
    let next = list-few (suc index) cs (omega arith) f.1 in
    rw (list_cons, length-append) (omega arith)

pub list-most : (text : List ℕ) (cs : List Cue) → assembled text ≡ cues cs → length (list_of cs) ≤ 10 * most_records
unfolding assembled
list-most text cs e = omega (arith, list-few 0 cs (omega arith) (all-fine [] 0 1 (lines_of text) cs tt e))

-- From text to cells.
pub text-show : (text : List ℕ) (cs : List Cue) → assembled text ≡ cues cs → TextShow text (list_of cs)
unfolding assembled records_of
text-show text cs e =
    let list = list_of cs in
    let xs = steps_of cs in
    let r : records_of list ≡ records xs = fine-records (length list) 0 cs (le_refl _) (all-fine [] 0 1 (lines_of text) cs tt e) in
    let good = records-good list xs r in
    record {
      lines = cs;
      text-lines = e;
      list-records = r;
      packets =
          λ room fits.
          rw (accepted_exactly list room xs r fits, take_at (output xs) (drop (length (output xs)) room) (length (output xs)) refl)
          (apart-packed xs good);
      same = run_all (packed xs) xs (packets_hold xs good) good;
    }
