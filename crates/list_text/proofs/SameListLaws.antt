-- Assembling what was written from a list gives that list.
use Prim.Native.Nat.{ℕ, zero, suc, ◌+◌, ◌*◌, ◌/◌, ◌%◌, ◌^◌, ◌-◌, ◌≤◌, ◌<◌}
use mathlib.Core.Path.{◌≡◌, refl, sym, ap, ◌∙◌}
use mathlib.Core.List.{List, [], ◌∷◌, ◌++◌, append-nil, append_assoc}
use mathlib.Core.Bool.{Bool, true, false, not, ◌&&◌}
use native.Mathlib.Omega.{arith}
use native.Mathlib.Numerals.{add-one}
use lib.Dec.{eqb}
use lib.ListN.{length, drop, length-drop}
use lib.Seq.{append_snoc, get_or-drop, drop_at}
use borrow.Author.Tests.{eqb-true, not-false}
use Rattle.lbp16.specs.Space.{Space, registers, eeprom, status, information, absent, space_of as space, is_absent, row}
use Rattle.lbp16.proofs.BoolLaws.{or_false}
use Rattle.packet.specs.Bytes.{number, bytes_of}
use Rattle.packet.specs.Step.{Kind, read, write, infoRead, Step, carried, is_write}
use Rattle.packet.specs.Rules.{first}
use Rattle.packet.proofs.ByteLaws.{number-of_bytes}
use Rattle.packet.proofs.RuleLaws.{none-holds}
use Rattle.card.proofs.ElementLaws.{Octets, bytes-of_number}
use Rattle.cue.specs.Packing.{join_all}
use Rattle.cue.specs.Records.{records, records_of, record_refusals, record_step, record_kind, record_bytes, record_space, bytes_of_value, upper_half}
use Rattle.cue.specs.Records.{mark_at, read_mark, write_mark}
use Rattle.cue.proofs.RecordLaws.{good-element}
use Rattle.cue.proofs.ReadingLaws.{passing, front-there}
use Rattle.cue.proofs.WalkLaws.{Remains, remains-all, remains-none, remains-next}
use Rattle.text.specs.Number.{ascii}
use Rattle.text.specs.Find.{same_bytes}
use Rattle.cue_text.specs.Words.{lines_of, words_of, words_from}
use Rattle.cue_text.specs.Text
use Rattle.cue_text.specs.Text.{Name, bytes_of_cue, step_of, read_of, write_of, place_by}
use Rattle.cue_text.specs.Text.{read_form, write_form, form_of, record_meaning, read_meaning, write_meaning}
use Rattle.cue_text.specs.Text.{form_meaning, line_meaning}
use Rattle.cue_text.specs.Assembled.{cues, with_cue, with_line, known_after, index_after, assembled_from, assembled, list_of}
use Rattle.space_text.specs.SpaceText.{space_word}
use Rattle.list_text.specs.Written.{hex_word, kind_word, value_word, line_of, text_of}
use Rattle.list_text.specs.SameList.{SameList}
use Rattle.cue_text.specs.declared.line.Cue.{Cue}
use Rattle.list_text.proofs.ReadBackLaws.{Inline, inline_append, plain_inline, line_then, line-words, word_then, word-last}
use Rattle.list_text.proofs.ReadBackLaws.{hex_of, hex_some, hex_word_lem, address-back, value-back, space-back, space-plain, space-some}
use Rattle.cue_text.proofs.CueLaws.{list-none, list_cons, cue-front, cue-step, cue-alone}

-- a line without its newline
unfoldable bare : Step → List ℕ
bare x = kind_word x.kind ++ space_word x.space ++ hex_word 4 x.address ++ value_word x.kind x.space x.bytes

hex_inline : (k v : ℕ) → Inline (hex_word k v)
unfolding hex_word ascii
hex_inline k v = (λ e. omega arith, λ e. omega arith, plain_inline (hex_of k v) (hex_word_lem k v))

blank_inline : Inline (32 ∷ [])
blank_inline = (λ e. omega arith, λ e. omega arith, tt)

kind_inline : (k : Kind) → Inline (kind_word k)
unfolding kind_word ascii
kind_inline read =
    let w : List ℕ = 114 ∷ 101 ∷ 97 ∷ 100 ∷ [] in
    inline_append w (32 ∷ []) (plain_inline w (omega arith)) blank_inline
kind_inline write =
    let w : List ℕ = 119 ∷ 114 ∷ 105 ∷ 116 ∷ 101 ∷ [] in
    inline_append w (32 ∷ []) (plain_inline w (omega arith)) blank_inline
kind_inline infoRead = tt

value_inline : (k : Kind) (s : Space) (bytes : List ℕ) → Inline (value_word k s bytes)
unfolding value_word
value_inline read s bytes = tt
value_inline write s bytes = hex_inline (2 * (row s).element) (number bytes)
value_inline infoRead s bytes = tt

bare_inline : (x : Step) → Inline (bare x)
unfolding bare
bare_inline x =
    let k = kind_word x.kind in
    let s = space_word x.space in
    let a = hex_word 4 x.address in
    let v = value_word x.kind x.space x.bytes in
    inline_append (k ++ s ++ a) v
    (inline_append (k ++ s) a (inline_append k s (kind_inline x.kind) (plain_inline s (space-plain x.space))) (hex_inline 4 x.address))
    (value_inline x.kind x.space x.bytes)

-- the lines of a written text
text-lines : (x : Step) (xs : List Step) → lines_of (text_of (x ∷ xs)) ≡ bare x ∷ lines_of (text_of xs)
unfolding text_of join_all line_of bare ascii
text-lines x xs = ap lines_of (append_snoc (bare x) 10 (text_of xs)) ∙ line_then (bare x) (text_of xs) (bare_inline x)

no_lines : lines_of (text_of []) ≡ []
unfolding text_of join_all lines_of
no_lines = refl

-- the words of a line
read-words : (s a : ℕ) → is_absent (space s) ≡ false
    → words_of (bare (step_of (read_of s a))) ≡ ascii "read" ∷ space_word (space s) ∷ hex_of 4 a ∷ []
unfolding bare step_of kind_word value_word hex_word ascii
read-words s a h =
    let w = space_word (space s) in
    let x = step_of (read_of s a) in
    line-words (bare x) (bare_inline x)
    ∙ ap (λ (l : List ℕ). words_from [] (114 ∷ 101 ∷ 97 ∷ 100 ∷ 32 ∷ l)) (append-nil (w ++ 32 ∷ hex_of 4 a))
    ∙ word_then (114 ∷ 101 ∷ 97 ∷ 100 ∷ []) (w ++ 32 ∷ hex_of 4 a) (omega arith) (omega arith)
    ∙ ap (λ (ws : List (List ℕ)). (114 ∷ 101 ∷ 97 ∷ 100 ∷ []) ∷ ws)
    (word_then w (hex_of 4 a) (space-some (space s) h) (space-plain (space s))
    ∙ ap (λ (ws : List (List ℕ)). w ∷ ws) (word-last (hex_of 4 a) (hex_some 4 a) (hex_word_lem 4 a)))

write-words : (s a v : ℕ) → is_absent (space s) ≡ false → v < 256 ^ (row (space s)).element
    → words_of (bare (step_of (write_of s a v)))
    ≡ ascii "write" ∷ space_word (space s) ∷ hex_of 4 a ∷ hex_of (2 * (row (space s)).element) v ∷ []
unfolding bare step_of kind_word value_word hex_word carried ascii
write-words s a v h l =
    let w = space_word (space s) in
    let d = 2 * (row (space s)).element in
    let x = step_of (write_of s a v) in
    let n = number (bytes_of (row (space s)).element v) in
    let e : n ≡ v = number-of_bytes (row (space s)).element v l in
    line-words (bare x) (bare_inline x)
    ∙ ap (λ (t : List ℕ). words_from [] (119 ∷ 114 ∷ 105 ∷ 116 ∷ 101 ∷ 32 ∷ t)) (append_assoc w (32 ∷ hex_of 4 a) (32 ∷ hex_of d n))
    ∙ word_then (119 ∷ 114 ∷ 105 ∷ 116 ∷ 101 ∷ []) (w ++ 32 ∷ (hex_of 4 a ++ 32 ∷ hex_of d n)) (omega arith) (omega arith)
    ∙ ap (λ (ws : List (List ℕ)). (119 ∷ 114 ∷ 105 ∷ 116 ∷ 101 ∷ []) ∷ ws)
    (word_then w (hex_of 4 a ++ 32 ∷ hex_of d n) (space-some (space s) h) (space-plain (space s))
    ∙ ap (λ (ws : List (List ℕ)). w ∷ ws)
    (word_then (hex_of 4 a) (hex_of d n) (hex_some 4 a) (hex_word_lem 4 a)
    ∙ ap (λ (ws : List (List ℕ)). hex_of 4 a ∷ ws)
    (word-last (hex_of d n) (hex_some d n) (hex_word_lem d n) ∙ ap (λ (m : ℕ). hex_of d m ∷ []) e)))

-- what a written line says
module _ (known : List Name) (index s a : ℕ) (there : is_absent (space s) ≡ false) (near : a < 65536) where
  read-line : line_meaning known index (bare (step_of (read_of s a))) ≡ record_meaning index (read_of s a)
  unfolding line_meaning form_of read_form form_meaning read_meaning place_by same_bytes ascii
  read-line = rw (read-words s a there, space-back s there, address-back a near) refl

  write-line : (v : ℕ) → v < 256 ^ (row (space s)).element
      → line_meaning known index (bare (step_of (write_of s a v))) ≡ record_meaning index (write_of s a v)
  unfolding line_meaning form_of write_form form_meaning write_meaning place_by same_bytes ascii
  write-line v h = rw (write-words s a v there h, space-back s there, address-back a near, value-back (space s) v there h) refl

-- The record at the front of bytes that no rule refuses: it is a line's, and its own bytes stand there.
record Cued (index : ℕ) (rest : List ℕ) : Type 0 where
  c : Cue
  said : (known : List Name) → line_meaning known index (bare (record_step rest)) ≡ Text.does c
  bytes : bytes_of_cue c ++ drop (record_bytes (record_kind rest)) rest ≡ rest

meant : (index : ℕ) (c : Cue) → first (record_refusals index (bytes_of_cue c)) ≡ 0 → record_meaning index c ≡ Text.does c
unfolding record_meaning
meant index c e = rw e refl

from-cue : (index : ℕ) (c : Cue) (more : List ℕ) → c.address < 65536 → first (record_refusals index (bytes_of_cue c ++ more)) ≡ 0
    → ((known : List Name) → line_meaning known index (bare (step_of c)) ≡ record_meaning index c) → Cued index (bytes_of_cue c ++ more)
from-cue index c more near ok line =
    record {
      c = c;
      said = λ known. rw (cue-step c more near) (line known ∙ meant index c (cue-alone c more index ok));
      bytes = rw (cue-front c more, drop_at (bytes_of_cue c) more (length (bytes_of_cue c)) refl) refl;
    }

-- A record by its bytes: as many as a read has, and those behind them.
module _ (index a b s z e f : ℕ) (more : List ℕ) where
  abbrev front : List ℕ
  front = a ∷ b ∷ s ∷ z ∷ e ∷ f ∷ more

  abbrev mark : ℕ
  mark = a + 256 * (b + 256 * 0)

  abbrev address : ℕ
  address = e + 256 * (f + 256 * 0)

  module _ (o : Octets front) (ok : first (record_refusals index front) ≡ 0) where
    there : is_absent (space s) ≡ false
    unfolding record_step record_space
    there = (good-element (record_step front) (passing index front ok).good).0

    near : address < 65536
    near = let p = o 4 (omega arith) in let q = o 5 (omega arith) in omega arith

    spare : z ≡ 0
    unfolding record_refusals
    spare =
        let (few, (marked, (good, (plain, end)))) = none-holds (record_refusals index front) (omega arith) ok in
        eqb-true z 0 (not-false _ (or_false (not (eqb z 0)) _ plain).0)

    low : address % 256 ≡ e
    low = let p = o 4 (omega arith) in omega arith

    high : address / 256 % 256 ≡ f
    high = let p = o 4 (omega arith) in let q = o 5 (omega arith) in omega arith

    is_read : eqb mark write_mark ≡ false → mark ≡ read_mark
    unfolding record_refusals mark_at number
    is_read w =
        let (few, (marked, (good, (plain, end)))) = none-holds (record_refusals index front) (omega arith) ok in
        go (eqb mark read_mark) refl (or_false (not (eqb mark read_mark) && not (eqb mark write_mark)) _ marked).0
      where
        go : (r : Bool) → eqb mark read_mark ≡ r → (not r && not (eqb mark write_mark)) ≡ false → mark ≡ read_mark
        go true q h = eqb-true _ _ q
        go false q h =
            let y : ◌≡◌ {A = Bool} true false = rw w at h in
            let x : ◌≡◌ {A = ℕ} 0 1 = cc in
            absurd (omega arith)

    read-cued : eqb mark write_mark ≡ false → Cued index front
    unfolding bytes_of_cue bytes_of
    read-cued w =
        let m = is_read w in
        let p = o 0 (omega arith) in
        let q = o 1 (omega arith) in
        let a₀ : a ≡ 0x52 = omega arith in
        let b₀ : b ≡ 0x44 = omega arith in
        let same : bytes_of_cue (read_of s address) ++ more ≡ front = rw (low, high, a₀, b₀, spare) refl in
        rw same at (from-cue index (read_of s address) more near (rw same ok) (λ known. read-line known index s address there near))

-- the same of a write, by its value's four bytes
module _ (index a b s z e f g h i j : ℕ) (more : List ℕ) where
  abbrev bytes : List ℕ
  bytes = g ∷ h ∷ i ∷ j ∷ []

  abbrev whole : List ℕ
  whole = a ∷ b ∷ s ∷ z ∷ e ∷ f ∷ g ∷ h ∷ i ∷ j ∷ more

  module _ (o : Octets whole) where
    small : Octets bytes
    small zero l = o 6 (omega arith)
    small (suc zero) l = o 7 (omega arith)
    small (suc (suc zero)) l = o 8 (omega arith)
    small (suc (suc (suc zero))) l = o 9 (omega arith)
    small (suc (suc (suc (suc n)))) l = absurd (omega arith)

    fits : (t : Space) → is_absent t ≡ false → number (drop (row t).element bytes) ≡ 0 → number bytes < 256 ^ (row t).element
    unfolding row number is_absent
    fits registers p q = let g₀ = o 6 (omega arith) in let h₀ = o 7 (omega arith) in let i₀ = o 8 (omega arith) in let j₀ = o 9 (omega arith) in omega arith
    fits eeprom p q = let g₀ = o 6 (omega arith) in let h₀ = o 7 (omega arith) in omega arith
    fits status p q = let g₀ = o 6 (omega arith) in let h₀ = o 7 (omega arith) in omega arith
    fits information p q = let g₀ = o 6 (omega arith) in let h₀ = o 7 (omega arith) in omega arith
    fits absent p q = let x : ◌≡◌ {A = ℕ} 0 1 = cc in absurd (omega arith)

    module _ (ok : first (record_refusals index whole) ≡ 0) (w : eqb (mark index a b s z e f (bytes ++ more)) write_mark ≡ true) where
      upper : number (drop (row (space s)).element bytes) ≡ 0
      unfolding record_refusals record_kind upper_half bytes_of_value record_space mark_at number is_write
      upper =
          let (few, (marked, (good, (plain, end)))) = none-holds (record_refusals index whole) (omega arith) ok in
          let p = (or_false (not (eqb z 0)) _ plain).1 in
          eqb-true _ 0 (not-false _ (rw w at p))

      six-bytes : a ≡ 0x57 → b ≡ 0x52
          → bytes_of 2 write_mark ++ (s ∷ 0 ∷ []) ++ bytes_of 2 (address index a b s z e f (bytes ++ more)) ≡ a ∷ b ∷ s ∷ z ∷ e ∷ f ∷ []
      unfolding bytes_of
      six-bytes p q =
          let rest = bytes ++ more in
          rw (low index a b s z e f rest o ok, high index a b s z e f rest o ok, p, q, spare index a b s z e f rest o ok) refl

      write-cued : Cued index whole
      unfolding bytes_of_cue
      write-cued =
          let rest = bytes ++ more in
          let t = there index a b s z e f rest o ok in
          let n = near index a b s z e f rest o ok in
          let ad = address index a b s z e f rest in
          let v = number bytes in
          let m : mark index a b s z e f rest ≡ write_mark = eqb-true _ _ w in
          let p = o 0 (omega arith) in
          let q = o 1 (omega arith) in
          let a₀ : a ≡ 0x57 = omega arith in
          let b₀ : b ≡ 0x52 = omega arith in
          let value-bytes : bytes_of 4 v ≡ bytes = bytes-of_number bytes small in
          let six : bytes_of 2 write_mark ++ (s ∷ 0 ∷ []) ++ bytes_of 2 ad ≡ a ∷ b ∷ s ∷ z ∷ e ∷ f ∷ [] = six-bytes a₀ b₀ in
          let same : bytes_of_cue (write_of s ad v) ++ more ≡ whole = rw (six, value-bytes) refl in
          rw same at
          (from-cue index (write_of s ad v) more n (rw same ok) (λ known. write-line known index s ad t n v (fits (space s) t upper)))

long-write : (index a b s z e f : ℕ) (more : List ℕ) → first (record_refusals index (a ∷ b ∷ s ∷ z ∷ e ∷ f ∷ more)) ≡ 0
    → eqb (a + 256 * (b + 256 * 0)) write_mark ≡ true → 4 ≤ length more
unfolding record_step record_kind mark_at number record_bytes is_write
long-write index a b s z e f more ok w =
    let l : 10 ≤ length (a ∷ b ∷ s ∷ z ∷ e ∷ f ∷ more) = rw w at (passing index (a ∷ b ∷ s ∷ z ∷ e ∷ f ∷ more) ok).bytes in
    omega arith

-- every record that no rule refuses
cued : (index : ℕ) (rest : List ℕ) → Octets rest → first (record_refusals index rest) ≡ 0 → Cued index rest
unfolding mark_at number
cued index rest o ok = six rest o ok (front-there index rest ok)
  where
    four : (a b s z e f : ℕ) (more : List ℕ) → Octets (a ∷ b ∷ s ∷ z ∷ e ∷ f ∷ more)
        → first (record_refusals index (a ∷ b ∷ s ∷ z ∷ e ∷ f ∷ more)) ≡ 0 → eqb (a + 256 * (b + 256 * 0)) write_mark ≡ true → 4 ≤ length more
        → Cued index (a ∷ b ∷ s ∷ z ∷ e ∷ f ∷ more)
    four a b s z e f [] o ok w l = absurd (omega arith)
    four a b s z e f (g ∷ []) o ok w l = absurd (omega arith)
    four a b s z e f (g ∷ h ∷ []) o ok w l = absurd (omega arith)
    four a b s z e f (g ∷ h ∷ i ∷ []) o ok w l = absurd (omega arith)
    four a b s z e f (g ∷ h ∷ i ∷ j ∷ more) o ok w l = write-cued index a b s z e f g h i j more o ok w

    six : (rest : List ℕ) → Octets rest → first (record_refusals index rest) ≡ 0 → 6 ≤ length rest → Cued index rest
    six [] o ok l = absurd (omega arith)
    six (a ∷ []) o ok l = absurd (omega arith)
    six (a ∷ b ∷ []) o ok l = absurd (omega arith)
    six (a ∷ b ∷ s ∷ []) o ok l = absurd (omega arith)
    six (a ∷ b ∷ s ∷ z ∷ []) o ok l = absurd (omega arith)
    six (a ∷ b ∷ s ∷ z ∷ e ∷ []) o ok l = absurd (omega arith)
    six (a ∷ b ∷ s ∷ z ∷ e ∷ f ∷ more) o ok l = go (eqb (a + 256 * (b + 256 * 0)) write_mark) refl
      where
        go : (t : Bool) → eqb (a + 256 * (b + 256 * 0)) write_mark ≡ t → Cued index (a ∷ b ∷ s ∷ z ∷ e ∷ f ∷ more)
        go false w = read-cued index a b s z e f more o ok w
        go true w = four a b s z e f more o ok w (long-write index a b s z e f more ok w)

-- From a record on: the lines written of those left give their bytes.
record SameFrom (index line : ℕ) (rest : List ℕ) (todo : List Step) : Type 0 where
  lines : List Cue
  said : assembled_from [] index line (lines_of (text_of todo)) ≡ cues lines
  bytes : list_of lines ≡ rest

octets_drop : (k : ℕ) (l : List ℕ) → Octets l → Octets (drop k l)
octets_drop k l o i h = let d : i < length l - k = rw length-drop at h in rw get_or-drop (o (k + i) (omega arith))

no_more : (index : ℕ) (rest : List ℕ) → Remains index rest [] → rest ≡ []
no_more index [] r = refl
no_more index (b ∷ bs) r =
    let e = (remains-next r (λ z. omega arith)).same in
    let z : ◌≡◌ {A = ℕ} 0 1 = cc in
    absurd (omega arith)

said-on : (index line : ℕ) (x y : Step) (todo : List Step) (c : Cue) (cs : List Cue) → x ≡ y → line_meaning [] index (bare y) ≡ Text.does c
    → assembled_from [] (suc index) (suc line) (lines_of (text_of todo)) ≡ cues cs
    → assembled_from [] index line (lines_of (text_of (x ∷ todo))) ≡ cues (c ∷ cs)
unfolding assembled_from with_line with_cue known_after index_after
said-on index line x y todo c cs e f g = rw (text-lines x todo, e, f, g) refl

same_from : (index line : ℕ) (rest : List ℕ) (todo : List Step) → Octets rest → Remains index rest todo → SameFrom index line rest todo
unfolding assembled_from
same_from index line rest [] o r = record { lines = []; said = rw no_lines refl; bytes = list-none ∙ sym (no_more index rest r) }
same_from index line [] (x ∷ todo) o r =
    let e = remains-none r refl in
    let z : ◌≡◌ {A = ℕ} 0 1 = cc in
    absurd (omega arith)
same_from index line (b ∷ bs) (x ∷ todo) o r =
    let rest = b ∷ bs in
    let n = remains-next r (λ z. omega arith) in
    let k = record_bytes (record_kind rest) in
    let e = n.same in
    let here : x ≡ record_step rest = cc in
    let later : n.later ≡ todo = cc in
    let c = cued index rest o n.fine in
    let next = same_from (suc index) (suc line) (drop k rest) todo (octets_drop k rest o) (rw (later, add-one) at n.remains) in
    record {
      lines = c.c ∷ next.lines;
      said = said-on index line x (record_step rest) todo c.c next.lines here (c.said []) next.said;
      bytes = list_cons c.c next.lines ∙ ap (λ (t : List ℕ). bytes_of_cue c.c ++ t) next.bytes ∙ c.bytes;
    }

-- Of every accepted list.
pub same-list : (list : List ℕ) (xs : List Step) → Octets list → records_of list ≡ records xs → SameList list (text_of xs)
unfolding assembled
same-list list xs o e =
    let s = same_from 0 1 list xs o (remains-all list xs e) in
    record { lines = s.lines; text-lines = s.said; same = s.bytes }
