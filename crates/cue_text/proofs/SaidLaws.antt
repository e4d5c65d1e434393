-- Laws of what a line says.
use Prim.Native.Nat.{ℕ, zero, suc, ◌+◌, ◌-◌, min, ◌≤◌, ◌<◌}
use mathlib.Core.Path.{◌≡◌, refl, sym, ap, ◌∙◌}
use mathlib.Core.Logic.{◌≢◌}
use mathlib.Core.List.{List, [], ◌∷◌, ◌++◌}
use mathlib.Core.Bool.{Bool, true, false, not, ◌||◌, cond}
use native.Mathlib.Omega.{arith}
use lib.ListN.{length, get_or, take, drop, length-drop, length-take}
use lib.Seq.{drop-drop, get_or-drop, take-take, take-length}
use lib.Dec.{eqb}
use Rattle.text.specs.Number.{ascii}
use Rattle.text.specs.Find.{same_bytes}
use Rattle.packet.specs.Bytes.{bytes_of}
use Rattle.packet.specs.Step.{is_write}
use Rattle.packet.specs.Rules.{first}
use Rattle.packet.specs.Command.{pick_kind}
use Rattle.cue.specs.Records.{read_mark, write_mark, record_bytes, record_refusals}
use Rattle.std.proofs.Common.{Option, Some, None, Result, Ok, Err}
use Rattle.lbp16.specs.Answer.{rule_number, ruled}
use Rattle.lbp16.specs.declared.Rule.{Rule}
use Rattle.lbp16.proofs.RuleLaws.{rule_number_range}
use Rattle.cue_text.specs.declared.line.Said.{Said}
use Rattle.cue_text.specs.Fault.{number_in}
use Rattle.cue_text.specs.Numbers.{Value, space_of, address_of, is_name}
use Rattle.cue_text.specs.Text.{Form, unknown, form_of, read_form, write_form, name_form, nowhere, place, place_by, place_of, is_known}
use Rattle.cue_text.specs.Text.{Name, most_names, bytes_of_cue, read_of, write_of, Meaning, refused, defines, does, unless, record_meaning}
use Rattle.cue_text.specs.Text.{read_meaning, write_meaning, name_meaning, form_meaning, line_meaning}
use Rattle.cue_text.specs.Inside.{line_at, words_here, word_in, HoldsWords, LineHere, located, place_in, name_by}
use Rattle.cue_text.specs.Inside.{defined_at, far, kept, name_at, meaning_of}
use Rattle.cue_text.specs.Inside.{read_shape, write_shape, name_shape, shape_of, formed, ten_bytes}
use Rattle.cue_text.specs.declared.word.Words.{Words}
use Rattle.cue_text.specs.declared.known.Located.{Located}
use Rattle.cue_text.specs.declared.line.Cue.{Cue}
use Rattle.cue_text.specs.declared.line.Shape.{Shape}
use Rattle.cue_text.proofs.WordLaws.{words-at}
use Rattle.cue_text.proofs.KnownLaws.{kept-name, place_in_lem}

-- one of three first words, or none of them
pick_form : (r w n : Bool) (b c d : List ℕ) (p q s : Shape) {x y z : Form} → x ≡ formed p b c d → y ≡ formed q b c d → z ≡ formed s b c d
    → cond r x (cond w y (cond n z unknown)) ≡ formed (cond r p (cond w q (cond n s Shape.Unknown))) b c d
unfolding formed
pick_form true w n b c d p q s e f g = e
pick_form false true n b c d p q s e f g = f
pick_form false false true b c d p q s e f g = g
pick_form false false false b c d p q s e f g = refl

-- The first word and the number of words decide the form; five words or more are of none.
pub form_is : (ws : List (List ℕ))
    → form_of ws ≡ formed (shape_of (get_or ws 0 []) (min 5 (length ws))) (get_or ws 1 []) (get_or ws 2 []) (get_or ws 3 [])
unfolding form_of read_form write_form name_form formed shape_of read_shape write_shape name_shape
form_is [] = refl
form_is (a ∷ []) =
    pick_form (same_bytes a (ascii "read")) (same_bytes a (ascii "write")) (same_bytes a (ascii "name")) [] [] []
    (read_shape 1) (write_shape 1) (name_shape 1) refl refl refl
form_is (a ∷ b ∷ []) =
    pick_form (same_bytes a (ascii "read")) (same_bytes a (ascii "write")) (same_bytes a (ascii "name")) b [] []
    (read_shape 2) (write_shape 2) (name_shape 2) refl refl refl
form_is (a ∷ b ∷ c ∷ []) =
    pick_form (same_bytes a (ascii "read")) (same_bytes a (ascii "write")) (same_bytes a (ascii "name")) b c []
    (read_shape 3) (write_shape 3) (name_shape 3) refl refl refl
form_is (a ∷ b ∷ c ∷ d ∷ []) =
    pick_form (same_bytes a (ascii "read")) (same_bytes a (ascii "write")) (same_bytes a (ascii "name")) b c d
    (read_shape 4) (write_shape 4) (name_shape 4) refl refl refl
form_is (a ∷ b ∷ c ∷ d ∷ e ∷ ws) =
    let m : min 5 (length (a ∷ b ∷ c ∷ d ∷ e ∷ ws)) ≡ 5 = omega arith in
    rw m
    (pick_form (same_bytes a (ascii "read")) (same_bytes a (ascii "write")) (same_bytes a (ascii "name")) b c d
    (read_shape 5) (write_shape 5) (name_shape 5) refl refl refl)

pub line-here : (text : List ℕ) (k : ℕ) (rest : List ℕ) (w : Words) → rest ≡ drop k text → HoldsWords rest w → k ≤ length text → LineHere text k rest w
line-here text k rest w e h l = record { rest-is = e; words = h; within = l }

-- a place that was found has its two numbers
module _ (s a : Value) where
  pub found_none : None ≡ located (place_by s a) → place_by s a ≡ nowhere
  unfolding place_in
  found_none e = sym (place_in_lem (place_by s a)) ∙ ap place_in (sym e)

  module _ {p : Located} (e : Some p ≡ located (place_by s a)) where
    pub found_some : place_by s a ≡ place p.space p.address
    unfolding place_in
    found_some = sym (place_in_lem (place_by s a)) ∙ ap place_in (sym e)

    pub found-numbers : (p.space ≡ number_in s) × (p.address ≡ number_in a)
    unfolding place_by
    found-numbers = go s a found_some
      where
        go : (s a : Value) → place_by s a ≡ place p.space p.address → (p.space ≡ number_in s) × (p.address ≡ number_in a)
        go None a e = let z : ◌≡◌ {A = ℕ} 0 1 = cc in absurd (omega arith)
        go (Some s) None e = let z : ◌≡◌ {A = ℕ} 0 1 = cc in absurd (omega arith)
        go (Some s) (Some a) e = (cc, cc)

take-taken : (m : ℕ) (l : List ℕ) → take (length (take m l)) l ≡ take m l
take-taken m l = sym (take-take (length (take m l)) m l (omega (arith, length-take m l))) ∙ take-length (take m l)

-- a line by the words that are held of it
module _ (text : List ℕ) (k : ℕ) (rest : List ℕ) (w : Words) (h : LineHere text k rest w) where
  behind : drop (k + w.second.from) text ≡ drop w.second.from rest
  behind = rw h.rest-is (sym (drop-drop w.second.from k text))

  -- the name that it defines, read again
  defined-name : defined_at text (k + w.second.from)
      ≡ record {
        name = word_in rest w.second;
        space = number_in (space_of (word_in rest w.third));
        address = number_in (address_of (word_in rest w.fourth));
      }
  unfolding defined_at name_by
  defined-name =
      let q = h.words in
      let b : words_here [] (drop (k + w.second.from) text) ≡ drop 1 (words_here [] rest) = ap (words_here []) behind ∙ q.behind in
      rw (
        b,
        q.second,
        q.third,
        q.fourth,
        get_or-drop 1 (words_here [] rest) 0 [],
        get_or-drop 1 (words_here [] rest) 1 [],
        get_or-drop 1 (words_here [] rest) 2 [],
      )
      refl

  pub name-within : k + w.second.from ≤ length text
  name-within =
      let l : length rest ≡ length text - k = ap length h.rest-is ∙ length-drop k text in
      omega (arith, h.words.within, h.within)

  -- and as it is kept
  pub kept-defined : length text < far → {p : Located} → Some p ≡ located (place_by (space_of (word_in rest w.third)) (address_of (word_in rest w.fourth)))
      → p.address < 65536 → (name : List ℕ) → name ≡ word_in rest w.second → {x : ℕ}
      → x ≡ kept (k + w.second.from) (length name) p.space p.address
      → name_at text x
      ≡ record {
        name = word_in rest w.second;
        space = number_in (space_of (word_in rest w.third));
        address = number_in (address_of (word_in rest w.fourth));
      }
  unfolding word_in
  kept-defined l {p} e f name g i =
      let v = found-numbers (space_of (word_in rest w.third)) (address_of (word_in rest w.fourth)) e in
      let part : take (length name) (drop (k + w.second.from) text) ≡ word_in rest w.second =
      rw (behind, g) (take-taken (w.second.to - w.second.from) (drop w.second.from rest)) in
      let at : k + w.second.from < far = omega (arith, name-within) in
      rw (i, ← v.0, ← v.1)
      (kept-name text (word_in rest w.second) (k + w.second.from) (length name) p.space p.address at f part (rw (← v.0, ← v.1) at defined-name))

module _ (text : List ℕ) (k : ℕ) (rest : List ℕ) (w : Words) (h : LineHere text k rest w) (known : List Name) (index : ℕ) where
  held_form : formed (shape_of (get_or (words_here [] rest) 0 []) (min 5 (length (words_here [] rest)))) (get_or (words_here [] rest) 1 [])
      (get_or (words_here [] rest) 2 []) (get_or (words_here [] rest) 3 [])
      ≡ formed (shape_of (word_in rest w.first) w.count) (word_in rest w.second) (word_in rest w.third) (word_in rest w.fourth)
  held_form =
      let q = h.words in
      rw (q.count, q.first, q.second, q.third, q.fourth) refl

  line-words : line_meaning known index (line_at text k) ≡ form_meaning known index (form_of (words_here [] rest))
  unfolding line_meaning
  line-words = ap (λ (ws : List (List ℕ)). form_meaning known index (form_of ws)) (words-at text k ∙ ap (words_here []) (sym h.rest-is))

  -- what is said of its form is said of the line
  pub said-line : {m : Meaning} {shape : Shape} → shape ≡ shape_of (word_in rest w.first) w.count
      → m ≡ form_meaning known index (formed shape (word_in rest w.second) (word_in rest w.third) (word_in rest w.fourth))
      → m ≡ line_meaning known index (line_at text k)
  said-line {m} {shape} e f =
      f
      ∙ ap (λ (s : Shape). form_meaning known index (formed s (word_in rest w.second) (word_in rest w.third) (word_in rest w.fourth))) e
      ∙ ap (form_meaning known index) (sym (form_is (words_here [] rest) ∙ held_form))
      ∙ sym line-words

-- a record's bytes
pub cue-bytes : (c : Cue) → take (record_bytes (pick_kind c.write)) (ten_bytes c) ≡ bytes_of_cue c
unfolding ten_bytes bytes_of_cue record_bytes is_write bytes_of
cue-bytes c = go c.write
  where
    go : (t : Bool)
        → take (record_bytes (pick_kind t)) (bytes_of 2 (cond t write_mark read_mark) ++ (c.space ∷ 0 ∷ []) ++ bytes_of 2 c.address ++ bytes_of 4 c.value)
        ≡ bytes_of 2 (cond t write_mark read_mark) ++ (c.space ∷ 0 ∷ []) ++ bytes_of 2 c.address ++ cond t (bytes_of 4 c.value) []
    go true = refl
    go false = refl

pub cue-length : (c : Cue) → length (bytes_of_cue c) ≡ record_bytes (pick_kind c.write)
unfolding bytes_of_cue record_bytes is_write bytes_of
cue-length c = go c.write
  where
    go : (t : Bool) → length (bytes_of 2 (cond t write_mark read_mark) ++ (c.space ∷ 0 ∷ []) ++ bytes_of 2 c.address ++ cond t (bytes_of 4 c.value) [])
        ≡ record_bytes (pick_kind t)
    go true = refl
    go false = refl

-- the same as the code takes them
module _ (c : Cue) (n : ℕ) (b : List ℕ) (e : b ≡ ten_bytes c) (f : n ≡ record_bytes (pick_kind c.write)) where
  pub taken-bytes : take n b ≡ bytes_of_cue c
  taken-bytes = rw (e, f) (cue-bytes c)

  pub ten_taken : n ≡ length (take n b)
  ten_taken = rw taken-bytes (f ∙ sym (cue-length c))

pub refusal_is : (c : Cue) (index n : ℕ) (b : List ℕ) → b ≡ ten_bytes c → n ≡ record_bytes (pick_kind c.write) → {r : ℕ}
    → r ≡ first (record_refusals index (take n b)) → r ≡ first (record_refusals index (bytes_of_cue c))
refusal_is c index n b e f g = g ∙ ap (λ (l : List ℕ). first (record_refusals index l)) (taken-bytes c n b e f)

-- a record by its refusal's number
module _ (n : ℕ) (m : Meaning) where
  unless-some : n ≢ 0 → refused n ≡ unless n m
  unless-some h = go n h
    where
      go : (n : ℕ) → n ≢ 0 → refused n ≡ unless n m
      go zero h = absurd (omega arith)
      go (suc n) h = refl

  unless-none : n ≡ 0 → m ≡ unless n m
  unless-none e = rw e refl

-- a rule's number is not 0
rule-some : (rule : Rule) → rule_number rule ≢ 0
rule-some rule = omega (arith, rule_number_range rule)

module _ (c : Cue) (index n : ℕ) (e : n ≡ first (record_refusals index (bytes_of_cue c))) where
  record_refused : n ≢ 0 → refused n ≡ record_meaning index c
  unfolding record_meaning
  record_refused h = rw (← e) (unless-some n (does c) h)

  record_does : n ≡ 0 → does c ≡ record_meaning index c
  unfolding record_meaning
  record_does h = rw (← e) (unless-none n (does c) h)

pub none_is : {A : Type 0} (o : Option A) → ((x : A) → o ≡ Some x → ⊥) → o ≡ None
none_is None h = refl
none_is (Some x) h = absurd (h x refl)

-- a record by its ruling
module _ (text : List ℕ) (c : Cue) (index : ℕ) {r : Result (Unit {0}) Rule} (e : ruled r ≡ first (record_refusals index (bytes_of_cue c))) where
  pub said-good : {u : Unit {0}} → r ≡ Ok u → meaning_of text (Ok (Said.Does c)) ≡ record_meaning index c
  unfolding meaning_of
  said-good f = record_does c index (ruled r) e (rw f refl)

  pub said-bad : {rule : Rule} → r ≡ Err rule → meaning_of text (Err rule) ≡ record_meaning index c
  unfolding meaning_of
  said-bad {rule} f = record_refused c index (rule_number rule) (rw f at e) (rule-some rule)

-- a read and a write by a place that was found, or not
module _ (n index : ℕ) (p : Option Located) where
  pub read-nowhere : p ≡ None → refused n ≡ read_meaning n (place_in p) index
  unfolding place_in read_meaning
  read-nowhere e = rw e refl

  pub read-there : {q : Located} → p ≡ Some q → record_meaning index (read_of q.space q.address) ≡ read_meaning n (place_in p) index
  unfolding place_in read_meaning
  read-there e = rw e refl

  module _ (v : Option ℕ) where
    pub write-none : v ≡ None → refused 82 ≡ write_meaning n (place_in p) v index
    unfolding write_meaning
    write-none e = rw e refl

    pub write-nowhere : {x : ℕ} → v ≡ Some x → p ≡ None → refused n ≡ write_meaning n (place_in p) v index
    unfolding place_in write_meaning
    write-nowhere e f = rw (e, f) refl

    pub write-there : {x : ℕ} {q : Located} → v ≡ Some x → p ≡ Some q
        → record_meaning index (write_of q.space q.address x) ≡ write_meaning n (place_in p) v index
    unfolding place_in write_meaning
    write-there e f = rw (e, f) refl

-- a definition, rule by rule
module _ (n s a : List ℕ) (known : List Name) where
  pub name-nowhere : None ≡ located (place_by (space_of s) (address_of a)) → refused 82 ≡ name_meaning n (place_by (space_of s) (address_of a)) known
  unfolding name_meaning
  name-nowhere e = rw (found_none (space_of s) (address_of a) e) refl

  module _ {p : Located} (e : Some p ≡ located (place_by (space_of s) (address_of a))) where
    there : place_by (space_of s) (address_of a) ≡ place p.space p.address
    there = found_some (space_of s) (address_of a) e

    pub name-bad : (not (is_name n) || is_known (place_of n known) || eqb (length known) most_names) ≡ true
        → refused 83 ≡ name_meaning n (place_by (space_of s) (address_of a)) known
    unfolding name_meaning
    name-bad b = rw (there, b) refl

    module _ (b : (not (is_name n) || is_known (place_of n known) || eqb (length known) most_names) ≡ false)
        (k : ℕ) (g : k ≡ first (record_refusals 0 (bytes_of_cue (read_of p.space p.address)))) where
      name-refused' : k ≢ 0 → refused k ≡ name_meaning n (place_by (space_of s) (address_of a)) known
      unfolding name_meaning
      name-refused' h = rw (there, b, ← g) (unless-some k _ h)

      name-defines' : k ≡ 0 → (x : Name) → x ≡ record { name = n; space = number_in (space_of s); address = number_in (address_of a) }
          → defines x ≡ name_meaning n (place_by (space_of s) (address_of a)) known
      unfolding name_meaning
      name-defines' h x q =
          let v = found-numbers (space_of s) (address_of a) e in
          rw (there, b, ← g, q, ← v.0, ← v.1) (unless-none k _ h)

      pub name-refused : {r : Result (Unit {0}) Rule} → ruled r ≡ k → {rule : Rule} → r ≡ Err rule
          → refused (rule_number rule) ≡ name_meaning n (place_by (space_of s) (address_of a)) known
      name-refused {r} f {rule} h =
          let q : rule_number rule ≡ k = rw h at f in
          rw q (name-refused' (omega (arith, q, rule_number_range rule)))

      pub name-defines : {r : Result (Unit {0}) Rule} → ruled r ≡ k → {u : Unit {0}} → r ≡ Ok u → (x : Name)
          → x ≡ record { name = n; space = number_in (space_of s); address = number_in (address_of a) }
          → defines x ≡ name_meaning n (place_by (space_of s) (address_of a)) known
      name-defines {r} f h x q = name-defines' (rw h at (sym f)) x q
