-- Laws of names.
use Prim.Native.Nat.{ℕ, suc, ◌+◌, ◌-◌, ◌/◌, ◌%◌, ◌≤◌, ◌<◌}
use mathlib.Core.Path.{◌≡◌, refl, sym, ap, ◌∙◌}
use mathlib.Core.List.{List, [], ◌∷◌, ◌++◌}
use mathlib.Core.Bool.{Bool, true, false, cond}
use native.Mathlib.Omega.{arith}
use native.Mathlib.Numerals.{add-one}
use lib.ListN.{length, get_or, take, drop, drop_of_length-le}
use borrow.Author.Tests.{lt-ltb, le-ltb, ltb-true}
use Rattle.lbp16.proofs.BoolLaws.{and_true}
use lib.Seq.{drop-cons}
use Rattle.text.specs.Find.{same_bytes}
use Rattle.std.proofs.Common.{Option, Some, None, is_some, slice_get, option_copied, Bor}
use Rattle.std.proofs.lemmas.Option.{none-some, same_Some}
use Rattle.cue_text.specs.Fault.{number_in}
use Rattle.cue_text.specs.Numbers.{Value, space_of, address_of, is_letter, starts_with_letter}
use Rattle.cue_text.specs.Text.{Place, nowhere, place, place_by, place_of, is_known, Name}
use Rattle.cue_text.specs.Inside.{words_here, word_from, word_in, HoldsWords, located, stands, place_in, name_by, defined_at}
use Rattle.cue_text.specs.Inside.{near, far, kept_near, is_near, kept, near_name, name_at, names_at}
use Rattle.cue_text.specs.declared.word.Word.{Word}
use Rattle.cue_text.specs.declared.word.Words.{Words}
use Rattle.cue_text.specs.declared.known.Located.{Located}
use Rattle.cue_text.proofs.WordLaws.{first_word}

-- a place by its two numbers
module _ (x y : Value) where
  pub by_both : {s a : ℕ} → x ≡ Some s → y ≡ Some a → ◌≡◌ {A = Option Located} (Some (record { space = s; address = a })) (located (place_by x y))
  unfolding located place_by
  by_both e f = rw (e, f) refl

  pub by-first : x ≡ None → ◌≡◌ {A = Option Located} None (located (place_by x y))
  unfolding located place_by
  by-first e = rw e refl

  pub by-second : y ≡ None → ◌≡◌ {A = Option Located} None (located (place_by x y))
  unfolding located place_by
  by-second e = rw e (go x)
    where
      go : (x : Value) → ◌≡◌ {A = Option Located} None (located (place_by x None))
      go None = refl
      go (Some s) = refl

-- a place that is given, read back
pub place_in_lem : (p : Place) → place_in (located p) ≡ p
unfolding place_in located
place_in_lem nowhere = refl
place_in_lem (place s a) = refl

pub known_is : (p : Place) → is_some (located p) ≡ is_known p
unfolding located is_known
known_is nowhere = refl
known_is (place s a) = refl

-- a definition's name and place, read again
pub defined-is : (text rest : List ℕ) (k : ℕ) (w : Word) {part : List ℕ} → rest ≡ drop k text → w ≡ word_from rest 0 → part ≡ word_in rest w
    → part ≡ (defined_at text k).name
unfolding defined_at name_by
defined-is text rest k w e f g =
    let q : word_in rest w ≡ get_or (words_here [] (drop k text)) 0 [] = rw (f, ← e) (first_word rest) in
    g ∙ q

pub defined-place : (text rest p q : List ℕ) (k : ℕ) (w : Words) {s a : ℕ} → rest ≡ drop k text → HoldsWords rest w → p ≡ word_in rest w.second
    → q ≡ word_in rest w.third → s ≡ number_in (space_of p) → a ≡ number_in (address_of q)
    → ◌≡◌ {A = Located} (record { space = s; address = a }) (stands (defined_at text k))
unfolding stands defined_at name_by
defined-place text rest p q k w e h f g i j = rw (i, j, f, g, h.second, h.third, ← e) refl

-- a name by the number that it is kept as
module _ (text : List ℕ) (x : ℕ) where
  pub kept_near_lem : x < far → name_at text x ≡ near_name text x
  unfolding name_at
  kept_near_lem h = rw (lt-ltb x far h) refl

  pub kept-far : far ≤ x → name_at text x ≡ defined_at text (x - far)
  unfolding name_at
  kept-far h = rw (le-ltb x far h) refl

  pub near-bytes : x < far → {part : List ℕ} → part ≡ word_in text (record { from = x / 16777216; to = x / 16777216 + x / 524288 % 32 + 1 })
      → part ≡ (name_at text x).name
  unfolding word_in near_name
  near-bytes h e =
      let n : x / 16777216 + x / 524288 % 32 + 1 - x / 16777216 ≡ x / 524288 % 32 + 1 = omega arith in
      rw (kept_near_lem h) (rw n at e)

  pub near-place : x < far → ◌≡◌ {A = Located} (record { space = x / 65536 % 8; address = x % 65536 }) (stands (name_at text x))
  unfolding stands near_name
  near-place h = rw (kept_near_lem h) refl

  pub far-bytes : (rest : List ℕ) (w : Word) → far ≤ x → rest ≡ drop (x - far) text → w ≡ word_from rest 0 → {part : List ℕ} → part ≡ word_in rest w
      → part ≡ (name_at text x).name
  far-bytes rest w h e f g = rw (kept-far h) (defined-is text rest (x - far) w e f g)

  pub far-place : far ≤ x → {p : Located} → p ≡ stands (defined_at text (x - far)) → p ≡ stands (name_at text x)
  far-place h e = rw (kept-far h) e

module _ (k n s a : ℕ) where
  pub kept-taken : is_near k n s ≡ true → kept_near k n s a ≡ kept k n s a
  unfolding kept
  kept-taken e = rw e refl

  pub kept-left : is_near k n s ≡ false → far + k ≡ kept k n s a
  unfolding kept
  kept-left e = rw e refl

-- The number that a name is kept as gives the name back.
near-fields : (k n s a : ℕ) → k < near → 0 < n → n < 33 → s < 8 → a < 65536
    → (kept_near k n s a < far) × (kept_near k n s a / 16777216 ≡ k) × (kept_near k n s a / 524288 % 32 + 1 ≡ n)
    × (kept_near k n s a / 65536 % 8 ≡ s) × (kept_near k n s a % 65536 ≡ a)
unfolding kept_near
near-fields k n s a h i j l m = (omega arith, omega arith, omega arith, omega arith, omega arith)

pub near_facts : (k n s : ℕ) → is_near k n s ≡ true → (k < near) × (0 < n) × (n < 33) × (s < 8)
unfolding is_near
near_facts k n s t =
    let p = and_true _ _ t in
    let q = and_true _ _ p.0 in
    let r = and_true _ _ q.0 in
    (ltb-true k near r.0, ltb-true 0 n r.1, ltb-true n 33 q.1, ltb-true s 8 p.1)

pub kept-name : (text name : List ℕ) (k n s a : ℕ) → k < far → a < 65536 → take n (drop k text) ≡ name
    → defined_at text k ≡ record { name = name; space = s; address = a } → name_at text (kept k n s a) ≡ record { name = name; space = s; address = a }
unfolding kept near_name
kept-name text name k n s a h l e f = go (is_near k n s) refl
  where
    go : (b : Bool) → is_near k n s ≡ b
        → name_at text (cond b (kept_near k n s a) (far + k)) ≡ record { name = name; space = s; address = a }
    go true t =
        let p = near_facts k n s t in
        let z = near-fields k n s a p.0 p.1 p.2 p.3 l in
        rw (kept_near_lem text (kept_near k n s a) z.0, z.1, z.2, z.3, z.4, e) refl
    go false t =
        let d : far + k - far ≡ k = omega arith in
        rw (kept-far text (far + k) (omega arith), d) f

-- a name in the table, from a place of the table on
module _ (text table name : List ℕ) (i : ℕ) where
  pub name-here : i < length table → same_bytes (name_at text (get_or table i 0)).name name ≡ true
      → place_of name (names_at text (drop i table)) ≡ place (name_at text (get_or table i 0)).space (name_at text (get_or table i 0)).address
  unfolding names_at place_of
  name-here h e = rw (drop-cons table i 0 h, e) refl

  pub name-next : i < length table → same_bytes (name_at text (get_or table i 0)).name name ≡ false
      → place_of name (names_at text (drop i table)) ≡ place_of name (names_at text (drop (i + 1) table))
  unfolding names_at place_of
  name-next h e = rw (drop-cons table i 0 h, e, add-one) refl

  pub name-none : length table ≤ i → place_of name (names_at text (drop i table)) ≡ nowhere
  unfolding names_at place_of
  name-none h = rw (drop_of_length-le table h) refl

pub names-length : (text table : List ℕ) → length (names_at text table) ≡ length table
unfolding names_at
names-length text [] = refl
names-length text (k ∷ table) = ap suc (names-length text table)

pub names_more : (text table : List ℕ) (k : ℕ) → names_at text (table ++ (k ∷ [])) ≡ names_at text table ++ (name_at text k ∷ [])
unfolding names_at
names_more text [] k = refl
names_more text (j ∷ table) k = ap (λ (xs : List Name). name_at text j ∷ xs) (names_more text table k)

module _ (word : List ℕ) {o : Option (Bor ℕ)} (e : option_copied o ≡ slice_get word 0) where
  pub letter_none : o ≡ None → false ≡ starts_with_letter word
  unfolding starts_with_letter
  letter_none f = go word (sym e ∙ ap option_copied f)
    where
      go : (word : List ℕ) → slice_get word 0 ≡ None → false ≡ starts_with_letter word
      go [] e = refl
      go (b ∷ word) e = absurd (none-some b (sym e))

  pub letter_first : {b : Bor ℕ} → o ≡ Some b → is_letter b.now ≡ starts_with_letter word
  unfolding starts_with_letter
  letter_first {b} f = go word (sym e ∙ ap option_copied f)
    where
      go : (word : List ℕ) → slice_get word 0 ≡ Some b.now → is_letter b.now ≡ starts_with_letter word
      go [] e = absurd (none-some b.now e)
      go (c ∷ word) e = ap is_letter (same_Some b.now c (sym e))

pub stands-at : (x : Name) → Some (stands x) ≡ located (place x.space x.address)
unfolding stands located
stands-at x = refl
