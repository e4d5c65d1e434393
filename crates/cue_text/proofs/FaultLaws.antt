-- Laws of what is wrong with a line.
use Prim.Native.Nat.{ℕ, zero, suc, ◌+◌, ◌-◌, ◌≤◌, ◌<◌}
use mathlib.Core.Path.{◌≡◌, refl, sym, ap, ◌∙◌}
use mathlib.Core.List.{List, []}
use mathlib.Core.Bool.{Bool, true, false, not, ◌||◌, ◌&&◌, cond}
use native.Mathlib.Omega.{arith}
use native.Mathlib.Decide.{dec_le}
use lib.Dec.{eqb, ltb}
use lib.ListN.{length, get_or, take, drop, drop_of_length-le}
use lib.Seq.{take-nil, drop-nil, drop-drop, get_or-drop}
use borrow.Author.Tests.{ltb-true, ltb-false, ne_eqb}
use Rattle.text.specs.Find.{bytes_before}
use Rattle.cue_text.specs.Words.{newline, lines_of, words_of}
use Rattle.packet.specs.Rules.{first}
use Rattle.list_reason.specs.ListReason.{element_causes, element_named}
use Rattle.std.proofs.Common.{is_none}
use Rattle.cue_text.specs.Numbers.{space_of, address_of, is_name}
use Rattle.cue_text.specs.Text
use Rattle.cue_text.specs.Text.{Form, form_of}
use Rattle.cue_text.specs.Fault.{fault, place_fault, write_fault, used_fault, defined_fault, element_fault}
use Rattle.cue_text.specs.Fault.{line_numbered, number_in, defines_name, defined, form_fault, fault_of}
use Rattle.cue_text.specs.Inside.{line_at, line_bytes, words_here, word_in, HoldsWords, shape_of, formed, word_numbered, element_fault_numbered}
use Rattle.cue_text.specs.declared.word.Words.{Words}
use Rattle.cue_text.specs.declared.line.Shape.{Shape}
use Rattle.cue_text.specs.declared.fault.Cause.{Cause}
use Rattle.cue_text.specs.declared.fault.Fault.{Fault}
use Rattle.cue_text.proofs.WordLaws.{lines_next, lines_none, line-some, words-at}
use Rattle.cue_text.proofs.SaidLaws.{form_is}

-- Going from line to line, up to a line: `k` is the one at `at`.
pub record Seeking (text : List ℕ) (line at k : ℕ) : Type 0 where
  pub within : at ≤ length text
  pub some : 1 ≤ k
  most : k - 1 ≤ line - 1
  same : lines_of (drop at text) ≡ drop (k - 1) (lines_of text)

pub seek_first : (text : List ℕ) (line : ℕ) → Seeking text line 0 1
seek_first text line = record { within = omega arith; some = omega arith; most = omega arith; same = refl }

-- both tests of the loop
both : (k line at n : ℕ) → (ltb k line && ltb at n) ≡ true → (k < line) × (at < n)
both k line at n = go (ltb k line) (ltb at n) refl refl
  where
    go : (a b : Bool) → ltb k line ≡ a → ltb at n ≡ b → (a && b) ≡ true → (k < line) × (at < n)
    go true true p q e = (ltb-true _ _ p, ltb-true _ _ q)
    go true false p q e = let z : ◌≡◌ {A = ℕ} 0 1 = cc in absurd (omega arith)
    go false b p q e = let z : ◌≡◌ {A = ℕ} 0 1 = cc in absurd (omega arith)

module _ (text : List ℕ) (line at k : ℕ) where
  pub more_within : (ltb k line && ltb at (length text)) ≡ true → {n : ℕ} → n ≡ line_bytes (drop at text)
      → (at + n ≤ length text) × (1 ≤ n) × (k < line)
  more_within t e =
      let (l, h) = both k line at (length text) t in
      let s = line-some text at h in
      (rw e s.1, rw e s.0, l)

  pub seek_next : Seeking text line at k → (ltb k line && ltb at (length text)) ≡ true → {n : ℕ} → n ≡ line_bytes (drop at text)
      → Seeking text line (at + n) (k + 1)
  seek_next s t {n} e =
      let (l, h) = both k line at (length text) t in
      let some = s.some in
      let m : k + 1 - 1 ≡ k - 1 + 1 = omega arith in
      let all = lines_of text in
      record {
        within = (more_within t e).0;
        some = omega arith;
        most = omega arith;
        same =
            rw e
            (sym
            (ap (λ (j : ℕ). drop j all) m ∙ sym (drop-drop 1 (k - 1) all) ∙ ap (drop 1) (sym s.same) ∙ ap (drop 1) (lines_next text at h)));
      }

  pub seek_last : Seeking text line at k → (ltb k line && ltb at (length text)) ≡ false → lines_of (drop at text) ≡ drop (line - 1) (lines_of text)
  seek_last s t = go (ltb k line) (ltb at (length text)) refl refl t
    where
      go : (a b : Bool) → ltb k line ≡ a → ltb at (length text) ≡ b → (a && b) ≡ false → lines_of (drop at text) ≡ drop (line - 1) (lines_of text)
      go true true p q e = let z : ◌≡◌ {A = ℕ} 0 1 = cc in absurd (omega arith)
      go true false p q e =
          let l = ltb-true k line p in
          let none = lines_none text at (ltb-false at (length text) q) in
          let some = s.some in
          let d = line - 1 - (k - 1) in
          let m : line - 1 ≡ k - 1 + d = omega arith in
          none ∙ sym (rw (m, ← drop-drop d (k - 1) (lines_of text), ← s.same, none) (drop-nil d))
      go false b p q e =
          let l = ltb-false k line p in
          let most = s.most in
          let some = s.some in
          let m : k - 1 ≡ line - 1 = omega arith in
          s.same ∙ ap (λ (j : ℕ). drop j (lines_of text)) m

-- Going from line to line, in search of a name.
pub record Looking (name text : List ℕ) (line at k : ℕ) : Type 0 where
  pub within : at ≤ length text
  pub some : 1 ≤ k
  same : defined name (take (line - 1) (lines_of text)) ≡ defined name (take (line - k) (lines_of (drop at text)))

pub look_first : (name text : List ℕ) (line : ℕ) → Looking name text line 0 1
look_first name text line = record { within = omega arith; some = omega arith; same = refl }

module _ (name text : List ℕ) (line at k : ℕ) (s : Looking name text line at k) where
  look_turn : (ltb k line && ltb at (length text)) ≡ true
      → defined name (take (line - 1) (lines_of text))
      ≡ (defines_name name (form_of (words_of (line_at text at)))
      || defined name (take (line - (k + 1)) (lines_of (drop (at + line_bytes (drop at text)) text))))
  unfolding defined
  look_turn t =
      let (l, h) = both k line at (length text) t in
      let m : line - k ≡ suc (line - (k + 1)) = omega arith in
      s.same ∙ rw (m, lines_next text at h) refl

  pub look_found : (ltb k line && ltb at (length text)) ≡ true → {b : Bool} → b ≡ defines_name name (form_of (words_of (line_at text at))) → b ≡ true
      → true ≡ defined name (take (line - 1) (lines_of text))
  look_found t e f = sym (look_turn t ∙ rw (sym e ∙ f) refl)

  pub look_next : (ltb k line && ltb at (length text)) ≡ true → {b : Bool} → b ≡ defines_name name (form_of (words_of (line_at text at))) → b ≡ false
      → {n : ℕ} → n ≡ line_bytes (drop at text) → Looking name text line (at + n) (k + 1)
  look_next t e f {n} g =
      record { within = (more_within text line at k t g).0; some = omega arith; same = look_turn t ∙ rw (sym e ∙ f, g) refl }

  pub look_last : (ltb k line && ltb at (length text)) ≡ false → false ≡ defined name (take (line - 1) (lines_of text))
  unfolding defined
  look_last t = sym (s.same ∙ go (ltb k line) (ltb at (length text)) refl refl t)
    where
      go : (a b : Bool) → ltb k line ≡ a → ltb at (length text) ≡ b → (a && b) ≡ false
          → defined name (take (line - k) (lines_of (drop at text))) ≡ false
      go true true p q e = let z : ◌≡◌ {A = ℕ} 0 1 = cc in absurd (omega arith)
      go true false p q e = rw (lines_none text at (ltb-false at (length text) q), take-nil (line - k)) refl
      go false b p q e = let l = ltb-false k line p in let m : line - k ≡ 0 = omega arith in rw m refl

-- The line that was sought.
line-is : (text : List ℕ) (line place : ℕ) → lines_of (drop place text) ≡ drop (line - 1) (lines_of text) → line_numbered line text ≡ line_at text place
unfolding line_numbered line_at
line-is text line place found =
    let all = lines_of text in
    let e : line - 1 + 0 ≡ line - 1 = omega arith in
    sym (get_or-drop (line - 1) all 0 [] ∙ ap (λ (j : ℕ). get_or all j []) e)
    ∙ ap (λ (ls : List (List ℕ)). get_or ls 0 []) (sym found)
    ∙ go (dec_le (length text) place)
  where
    go : Dec (length text ≤ place) → get_or (lines_of (drop place text)) 0 [] ≡ line_at text place
    go (yes h) = rw (lines_none text place h, drop_of_length-le text h) (sym (take-nil (bytes_before newline [])))
    go (no h) = rw (lines_next text place (omega arith)) refl

-- A line by the words that are held of it.
module _ (text : List ℕ) (place : ℕ) {rest : List ℕ} (r : rest ≡ drop place text) (w : Words) (h : HoldsWords rest w) where
  words_are : words_of (line_at text place) ≡ words_here [] rest
  words_are = words-at text place ∙ ap (words_here []) (sym r)

  module _ {p : List ℕ} (a : p ≡ word_in rest w.first) {shape : Shape} (e : shape ≡ shape_of p w.count) where
    abbrev form_by : Shape → Form
    form_by s = formed s (word_in rest w.second) (word_in rest w.third) (word_in rest w.fourth)

    line_form : (s : Shape) → shape ≡ s → form_of (words_of (line_at text place)) ≡ form_by s
    line_form s t =
        let first : s ≡ shape_of (word_in rest w.first) w.count = sym t ∙ e ∙ ap (λ (q : List ℕ). shape_of q w.count) a in
        ap form_of words_are ∙ form_is (words_here [] rest) ∙ rw (first, h.count, h.first, h.second, h.third, h.fourth) refl

    pub defines_as : (name : List ℕ) (s : Shape) → shape ≡ s → defines_name name (form_by s) ≡ defines_name name (form_of (words_of (line_at text place)))
    defines_as name s t = ap (defines_name name) (sym (line_form s t))

    -- what is wrong with the form is wrong with the line, where it is the one that was sought
    pub fault_as : (line : ℕ) → lines_of (drop place text) ≡ drop (line - 1) (lines_of text) → (n : ℕ) → (n ≡ 21 → ⊥) → (s : Shape) → shape ≡ s
        → form_fault n (take (line - 1) (lines_of text)) (form_by s) ≡ fault_of n line text
    unfolding fault_of
    fault_as line found n few s t =
        rw (ne_eqb n 21 few, line-is text line place found) (ap (form_fault n (take (line - 1) (lines_of text))) (sym (line_form s t)))

  pub word_held : (line : ℕ) → lines_of (drop place text) ≡ drop (line - 1) (lines_of text) → (k : ℕ) → k ≤ 3
      → word_in rest (word_numbered w k) ≡ get_or (words_of (line_numbered line text)) k []
  unfolding word_numbered
  word_held line found k l = rw (line-is text line place found, words_are) (go k l)
    where
      go : (k : ℕ) → k ≤ 3 → word_in rest (word_numbered w k) ≡ get_or (words_here [] rest) k []
      go zero l = h.first
      go (suc zero) l = h.second
      go (suc (suc zero)) l = h.third
      go (suc (suc (suc zero))) l = h.fourth
      go (suc (suc (suc (suc k)))) l = absurd (omega arith)

-- Only the first four words of a line are ever at fault.
record Few (f : Fault) : Type 0 where
  low : f.word ≤ 3

few : (c : Cause) (i : ℕ) → i ≤ 3 → Few (fault c i)
few c i h = record { low = h }

pick-few : (b : Bool) {f g : Fault} → Few f → Few g → Few (cond b f g)
pick-few true p q = p
pick-few false p q = q

place-few : (i : ℕ) (s : List ℕ) → i ≤ 2 → Few (place_fault i s)
unfolding place_fault
place-few i s h = pick-few (is_none (space_of s)) (few Cause.Space i (omega arith)) (few Cause.Address (i + 1) (omega arith))

element-few : (w : Bool) (i s a : ℕ) → i ≤ 2 → Few (element_fault w i s a)
unfolding element_fault
element-few w i s a h = few _ _ (go (eqb (first (element_causes (element_named w s a))) 1))
  where
    go : (b : Bool) → cond b i (i + 1) ≤ 3
    go true = omega arith
    go false = omega arith

used_few : (n : List ℕ) → Few (used_fault n)
unfolding used_fault
used_few n = pick-few (is_name n) (few Cause.NotDefined 1 (omega arith)) (few Cause.NoName 1 (omega arith))

defined-few : (above : List (List ℕ)) (n : List ℕ) → Few (defined_fault above n)
unfolding defined_fault
defined-few above n =
    pick-few (is_name n) (pick-few (defined n above) (few Cause.Again 1 (omega arith)) (few Cause.TooMany 1 (omega arith)))
    (few Cause.NoName 1 (omega arith))

write-few : (s a : List ℕ) → Few (write_fault s a)
unfolding write_fault
write-few s a = pick-few (is_none (space_of s) || is_none (address_of a)) (place-few 1 s (omega arith)) (few Cause.Value 3 (omega arith))

form_few : (n : ℕ) (above : List (List ℕ)) (f : Form) → Few (form_fault n above f)
unfolding form_fault
form_few n above Text.empty = few Cause.Form 0 (omega arith)
form_few n above (Text.reads (Text.at s a)) = pick-few (eqb n 82) (place-few 1 s (omega arith)) (element-few false 1 _ _ (omega arith))
form_few n above (Text.reads (Text.called w)) = used_few w
form_few n above (Text.writes (Text.at s a) v) =
    pick-few (eqb n 82) (write-few s a) (pick-few (eqb n 24) (few Cause.TooWide 3 (omega arith)) (element-few true 1 _ _ (omega arith)))
form_few n above (Text.writes (Text.called w) v) =
    pick-few (eqb n 82) (few Cause.Value 2 (omega arith))
    (pick-few (eqb n 83) (used_few w) (pick-few (eqb n 24) (few Cause.TooWide 2 (omega arith)) (few Cause.ReadOnly 1 (omega arith))))
form_few n above (Text.names w s a) =
    pick-few (eqb n 82) (place-few 2 s (omega arith))
    (pick-few (eqb n 83) (defined-few above w) (element-few false 2 _ _ (omega arith)))
form_few n above Text.unknown = few Cause.Form 0 (omega arith)

all-few : (n line : ℕ) (text : List ℕ) → Few (fault_of n line text)
unfolding fault_of
all-few n line text = pick-few (eqb n 21) (few Cause.Records 0 (omega arith)) (form_few n _ _)

pub fault-few : (n line : ℕ) (text : List ℕ) → (fault_of n line text).word ≤ 3
fault-few n line text = (all-few n line text).low

-- a test of two, each turned twice
pub either : (a b : Bool) {t : Bool} → (a || b) ≡ t → (not (not a) || not (not b)) ≡ t
either true b e = e
either false true e = e
either false false e = e

-- the words of SPACE and ADDRESS as the code takes them
module _ (w : Bool) (i : ℕ) (s a : List ℕ) {x y : ℕ} (e : x ≡ number_in (space_of s)) (f : y ≡ number_in (address_of a)) where
  pub element_wrong : {n : ℕ} → n ≡ first (element_causes (element_named w x y))
      → element_fault_numbered i n ≡ element_fault w i (number_in (space_of s)) (number_in (address_of a))
  unfolding element_fault element_fault_numbered
  element_wrong h = rw (← e, ← f, h) refl
