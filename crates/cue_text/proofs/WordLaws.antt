-- Laws of a text's lines and of a line's words.
use Prim.Native.Nat.{ℕ, zero, suc, ◌+◌, ◌-◌, min, ◌≤◌, ◌<◌}
use mathlib.Core.Path.{◌≡◌, refl, sym, ap, ◌∙◌}
use mathlib.Core.List.{List, [], ◌∷◌, ◌++◌, append-nil}
use mathlib.Core.Bool.{Bool, true, false, not, ◌||◌, cond}
use native.Mathlib.Omega.{arith}
use native.Mathlib.Numerals.{add-one}
use native.Mathlib.Nat.{add-zero, add-sub_cancel_left}
use native.Mathlib.Decide.{dec_le}
use lib.ListN.{length, get_or, take, drop, length-take, length-drop, drop_of_length-le}
use lib.Seq.{drop-cons, drop-drop, append_snoc, get_or-drop, take_all}
use lib.Dec.{eqb}
use borrow.Author.Tests.{eqb-true, lt-ltb, le-ltb}
use Rattle.text.specs.Find.{bytes_before}
use Rattle.cue_text.specs.Words.{newline, comment_mark, is_blank, with_byte, lines_of, uncommented, closed, words_from, words_of}
use Rattle.cue_text.specs.Inside.{line_at, line_bytes, ends_line, words_here, front_bytes, ends_word, in_word, blanks, word_bytes}
use Rattle.cue_text.specs.Inside.{word_from, word_in, word_count, HoldsWords}
use Rattle.cue_text.specs.declared.word.Word.{Word}

-- a byte in front of a first line
line-turn : (b : ℕ) (rest : List ℕ) (t : Bool) (k : ℕ) → lines_of rest ≡ take k rest ∷ lines_of (drop (suc k) rest)
    → cond t ([] ∷ lines_of rest) (with_byte b (lines_of rest))
    ≡ take (cond t 0 (suc k)) (b ∷ rest) ∷ lines_of (drop (suc (cond t 0 (suc k))) (b ∷ rest))
unfolding with_byte
line-turn b rest true k e = refl
line-turn b rest false k e = ap (with_byte b) e

-- A text that is not empty is its first line and those behind.
lines-first : (b : ℕ) (bs : List ℕ)
    → lines_of (b ∷ bs)
    ≡ take (bytes_before newline (b ∷ bs)) (b ∷ bs) ∷ lines_of (drop (suc (bytes_before newline (b ∷ bs))) (b ∷ bs))
unfolding lines_of bytes_before with_byte
lines-first b [] = go (eqb b newline)
  where
    go : (t : Bool) → cond t ([] ∷ []) (with_byte b [])
        ≡ take (cond t 0 1) (b ∷ []) ∷ lines_of (drop (suc (cond t 0 1)) (b ∷ []))
    go true = refl
    go false = refl
lines-first b (c ∷ cs) = line-turn b (c ∷ cs) (eqb b newline) (bytes_before newline (c ∷ cs)) (lines-first c cs)

drop-least : (n : ℕ) (s : List ℕ) → drop n s ≡ drop (min n (length s)) s
drop-least n s = go (dec_le n (length s))
  where
    go : Dec (n ≤ length s) → drop n s ≡ drop (min n (length s)) s
    go (yes h) = let e : min n (length s) ≡ n = omega arith in rw e refl
    go (no h) = drop_of_length-le s {i = n} (omega arith) ∙ sym (drop_of_length-le s {i = min n (length s)} (omega arith))

lines-some : (s : List ℕ) → 0 < length s → lines_of s ≡ take (bytes_before newline s) s ∷ lines_of (drop (line_bytes s) s)
unfolding line_bytes
lines-some [] h = absurd (omega arith)
lines-some (b ∷ bs) h =
    lines-first b bs
    ∙ ap (λ (l : List ℕ). take (bytes_before newline (b ∷ bs)) (b ∷ bs) ∷ lines_of l) (drop-least (suc (bytes_before newline (b ∷ bs))) (b ∷ bs))

-- the same from a place on
pub lines_next : (text : List ℕ) (k : ℕ) → k < length text
    → lines_of (drop k text) ≡ line_at text k ∷ lines_of (drop (k + line_bytes (drop k text)) text)
unfolding line_at
lines_next text k h =
    let l : 0 < length (drop k text) = rw length-drop (omega arith) in
    lines-some (drop k text) l ∙ ap (λ (s : List ℕ). line_at text k ∷ lines_of s) (drop-drop (line_bytes (drop k text)) k text)

pub lines_none : (text : List ℕ) (k : ℕ) → length text ≤ k → lines_of (drop k text) ≡ []
unfolding lines_of
lines_none text k h = rw (drop_of_length-le text h) refl

-- a line has some bytes, and no more than are left
pub line-some : (text : List ℕ) (k : ℕ) → k < length text → (1 ≤ line_bytes (drop k text)) × (k + line_bytes (drop k text) ≤ length text)
unfolding line_bytes
line-some text k h = let l = length-drop k text in (omega arith, omega arith)

pub line-behind : (text rest : List ℕ) (k n : ℕ) → rest ≡ drop k text → n ≡ line_bytes rest → k < length text → (1 ≤ n) × (k + n ≤ length text)
line-behind text rest k n e f h = rw (f, e) (line-some text k h)

-- A line's words are found in the text from it on: its end and its comment end the search.
words-first : (w s : List ℕ) → words_from w (uncommented (take (bytes_before newline s) s)) ≡ words_here w s
unfolding words_from words_here uncommented bytes_before ends_line is_blank
words-first w [] = refl
words-first w (b ∷ bs) =
    go (eqb b newline) (eqb b comment_mark) (is_blank b) refl refl refl (words-first [] bs) (words-first (w ++ (b ∷ [])) bs)
  where
    go : (n c t : Bool) → eqb b newline ≡ n → eqb b comment_mark ≡ c → is_blank b ≡ t
        → words_from [] (uncommented (take (bytes_before newline bs) bs)) ≡ words_here [] bs
        → words_from (w ++ (b ∷ [])) (uncommented (take (bytes_before newline bs) bs)) ≡ words_here (w ++ (b ∷ [])) bs
        → words_from w (uncommented (take (bytes_before newline (b ∷ bs)) (b ∷ bs))) ≡ words_here w (b ∷ bs)
    go true c t e f g p q = rw (eqb-true b newline e) refl
    go false true t e f g p q =
        let z = eqb-true b comment_mark f in
        let i : is_blank b ≡ false = rw z refl in
        rw (e, f, i) refl
    go false false true e f g p q = rw (e, f, g) (ap (closed w) p)
    go false false false e f g p q = rw (e, f, g) q

pub words-at : (text : List ℕ) (k : ℕ) → words_of (line_at text k) ≡ words_here [] (drop k text)
unfolding words_of line_at
words-at text k = words-first [] (drop k text)

-- bytes at the front, byte by byte
module _ (f : ℕ → Bool) where
  front-within : (s : List ℕ) → front_bytes f s ≤ length s
  unfolding front_bytes
  front-within [] = omega arith
  front-within (b ∷ s) = go (f b) (front-within s)
    where
      go : (t : Bool) → front_bytes f s ≤ length s → cond t (suc (front_bytes f s)) 0 ≤ length (b ∷ s)
      go true h = omega arith
      go false h = omega arith

  -- behind those in front the next is none of them
  front-again : (s : List ℕ) → front_bytes f (drop (front_bytes f s) s) ≡ 0
  unfolding front_bytes
  front-again [] = refl
  front-again (b ∷ s) = go (f b) refl (front-again s)
    where
      go : (t : Bool) → f b ≡ t → front_bytes f (drop (front_bytes f s) s) ≡ 0
          → front_bytes f (drop (cond t (suc (front_bytes f s)) 0) (b ∷ s)) ≡ 0
      go true e h = h
      go false e h = rw e refl

  module _ (s : List ℕ) (i : ℕ) where
    pub front-more : i < length s → f (get_or s i 0) ≡ true → front_bytes f (drop i s) ≡ suc (front_bytes f (drop (i + 1) s))
    unfolding front_bytes
    front-more h e = rw (drop-cons s i 0 h, e, add-one) refl

    pub front-here : i < length s → f (get_or s i 0) ≡ false → front_bytes f (drop i s) ≡ 0
    unfolding front_bytes
    front-here h e = rw (drop-cons s i 0 h, e) refl

    pub front-end : length s ≤ i → front_bytes f (drop i s) ≡ 0
    unfolding front_bytes
    front-end h = rw (drop_of_length-le s h) refl

pub blanks-within : (s : List ℕ) (k : ℕ) → k ≤ length s → k + blanks (drop k s) ≤ length s
unfolding blanks
blanks-within s k h = let l = length-drop k s in let n = front-within is_blank (drop k s) in omega arith

pub word-within : (s : List ℕ) (k : ℕ) → k ≤ length s → k + word_bytes (drop k s) ≤ length s
unfolding word_bytes
word-within s k h = let l = length-drop k s in let n = front-within in_word (drop k s) in omega arith

-- behind no word stands none
pub word-none : (s : List ℕ) (k : ℕ) → (word_from s k).from ≡ (word_from s k).to → word_from s (word_from s k).to ≡ word_from s k
unfolding word_from blanks
word-none s k e =
    let n : ℕ = k + front_bytes is_blank (drop k s) in
    let none : word_bytes (drop n s) ≡ 0 = omega (arith, e) in
    let again : front_bytes is_blank (drop n s) ≡ 0 =
    ap (front_bytes is_blank) (sym (drop-drop (front_bytes is_blank (drop k s)) k s)) ∙ front-again is_blank (drop k s) in
    rw (none, add-zero, again, add-zero, none, add-zero) refl

-- blanks in front change nothing
blanks-pass : (s : List ℕ) → words_here [] s ≡ words_here [] (drop (blanks s) s)
unfolding blanks front_bytes words_here closed
blanks-pass [] = refl
blanks-pass (b ∷ s) = go (is_blank b) refl (blanks-pass s)
  where
    go : (t : Bool) → is_blank b ≡ t → words_here [] s ≡ words_here [] (drop (front_bytes is_blank s) s)
        → words_here [] (b ∷ s) ≡ words_here [] (drop (cond t (suc (front_bytes is_blank s)) 0) (b ∷ s))
    go true e p = rw e p
    go false e p = refl

-- a word's bytes, behind those of a word begun
word-pass : (w s : List ℕ) → words_here w s ≡ closed (w ++ take (word_bytes s) s) (words_here [] (drop (word_bytes s) s))
unfolding word_bytes front_bytes in_word ends_word words_here closed
word-pass w [] = rw append-nil refl
word-pass w (b ∷ s) = go (is_blank b) (ends_line b) refl refl (word-pass (w ++ (b ∷ [])) s)
  where
    n : ℕ
    n = front_bytes in_word s

    go : (t e : Bool) → is_blank b ≡ t → ends_line b ≡ e
        → words_here (w ++ (b ∷ [])) s ≡ closed (w ++ (b ∷ []) ++ take n s) (words_here [] (drop n s))
        → words_here w (b ∷ s) ≡ closed (w ++ take (cond (not (t || e)) (suc n) 0) (b ∷ s)) (words_here [] (drop (cond (not (t || e)) (suc n) 0) (b ∷ s)))
    go true e p q more = rw (p, append-nil) refl
    go false true p q more = rw (p, q, append-nil) refl
    go false false p q more = rw (p, q) (more ∙ ap (λ (v : List ℕ). closed v (words_here [] (drop n s))) (append_snoc w b (take n s)))

-- where no word follows the blanks, none is left
no_word : (s : List ℕ) → word_bytes (drop (blanks s) s) ≡ 0 → words_here [] (drop (blanks s) s) ≡ []
unfolding blanks word_bytes front_bytes in_word ends_word words_here closed
no_word [] h = refl
no_word (b ∷ s) h = go (is_blank b) (ends_line b) refl refl (no_word s) h
  where
    go : (t e : Bool) → is_blank b ≡ t → ends_line b ≡ e
        → (word_bytes (drop (front_bytes is_blank s) s) ≡ 0 → words_here [] (drop (front_bytes is_blank s) s) ≡ [])
        → word_bytes (drop (cond t (suc (front_bytes is_blank s)) 0) (b ∷ s)) ≡ 0
        → words_here [] (drop (cond t (suc (front_bytes is_blank s)) 0) (b ∷ s)) ≡ []
    go true e p q more h = more h
    go false true p q more h = rw (p, q) refl
    go false false p q more h = let z : suc (front_bytes in_word s) ≡ 0 = rw (p, q) at h in absurd (omega arith)

-- The next word, and the words behind it; or no word, and none behind.
pub data Next (s : List ℕ) (w : Word) (ws : List (List ℕ)) : Type 0 where
  some : word_count w ≡ 1 → ws ≡ word_in s w ∷ words_here [] (drop w.to s) → Next s w ws
  last : word_count w ≡ 0 → word_in s w ≡ [] → ws ≡ [] → words_here [] (drop w.to s) ≡ [] → Next s w ws

closed_some : (w : List ℕ) (ws : List (List ℕ)) → 0 < length w → closed w ws ≡ w ∷ ws
unfolding closed
closed_some [] ws h = absurd (omega arith)
closed_some (b ∷ w) ws h = refl

module _ (s : List ℕ) (k : ℕ) (within : k ≤ length s) where
  here : words_here [] (drop k s) ≡ words_here [] (drop (k + blanks (drop k s)) s)
  here = blanks-pass (drop k s) ∙ ap (words_here []) (drop-drop (blanks (drop k s)) k s)

  apart : words_here [] (drop k s)
      ≡ closed (take (word_bytes (drop (k + blanks (drop k s)) s)) (drop (k + blanks (drop k s)) s))
      (words_here [] (drop (k + blanks (drop k s) + word_bytes (drop (k + blanks (drop k s)) s)) s))
  apart =
      here ∙ word-pass [] (drop (k + blanks (drop k s)) s)
      ∙ ap (λ (l : List ℕ). closed (take (word_bytes (drop (k + blanks (drop k s)) s)) (drop (k + blanks (drop k s)) s)) (words_here [] l))
      (drop-drop (word_bytes (drop (k + blanks (drop k s)) s)) (k + blanks (drop k s)) s)

  none_left : word_bytes (drop (k + blanks (drop k s)) s) ≡ 0 → words_here [] (drop (k + blanks (drop k s)) s) ≡ []
  none_left e =
      rw drop-drop at
      (no_word (drop k s) (rw (drop-drop (blanks (drop k s)) k s) e))

  pub next_word_lem : Next s (word_from s k) (words_here [] (drop k s))
  unfolding word_from word_in word_count
  next_word_lem = go (word_bytes (drop (k + blanks (drop k s)) s)) refl
    where
      go : (m : ℕ) → word_bytes (drop (k + blanks (drop k s)) s) ≡ m → Next s (word_from s k) (words_here [] (drop k s))
      go zero e =
          let f = k + blanks (drop k s) in
          let c : word_count (word_from s k) ≡ 0 = rw (e, le-ltb f (f + 0) (omega arith)) refl in
          let i : word_in s (word_from s k) ≡ [] = rw (e, add-sub_cancel_left) refl in
          let z : f + 0 ≡ f = omega arith in
          Next.last c i (here ∙ none_left e) (rw (e, z) (none_left e))
      go (suc m) e =
          let f = k + blanks (drop k s) in
          let c : word_count (word_from s k) ≡ 1 = rw (e, lt-ltb f (f + suc m) (omega arith)) refl in
          let i : word_in s (word_from s k) ≡ take (word_bytes (drop f s)) (drop f s) = rw add-sub_cancel_left refl in
          let b = blanks-within s k within in
          let l : 0 < length (take (word_bytes (drop f s)) (drop f s)) =
          rw (length-take, length-drop) (omega (arith, word-within s f b)) in
          Next.some c (apart ∙ closed_some _ _ l ∙ ap (λ (v : List ℕ). v ∷ words_here [] (drop (f + word_bytes (drop f s)) s)) (sym i))

  pub behind-blanks : words_here [] (drop (word_from s k).from s) ≡ words_here [] (drop k s)
  unfolding word_from
  behind-blanks = sym here

-- what follows of the next word
module _ (s : List ℕ) (w : Word) (ws : List (List ℕ)) where
  next-is : Next s w ws → word_in s w ≡ get_or ws 0 []
  next-is (Next.some c e) = rw e refl
  next-is (Next.last c i e b) = rw (i, e) refl

  next-behind : Next s w ws → drop 1 ws ≡ words_here [] (drop w.to s)
  next-behind (Next.some c e) = rw e refl
  next-behind (Next.last c i e b) = rw (b, e) refl

  next-count : (j : ℕ) → Next s w ws → min (suc j) (length ws) ≡ word_count w + min j (length (words_here [] (drop w.to s)))
  next-count j (Next.some c e) = rw (c, e) (omega arith)
  next-count j (Next.last c i e b) = rw (c, b, e) (omega arith)

pub first_word : (s : List ℕ) → word_in s (word_from s 0) ≡ get_or (words_here [] s) 0 []
first_word s = next-is s _ _ (next_word_lem s 0 (omega arith))

word-ends : (s : List ℕ) (k : ℕ) → (word_from s k).from ≤ (word_from s k).to
unfolding word_from
word-ends s k = omega arith

-- Five words in a row hold the line's words.
module _ (s : List ℕ) (a b c d e : Word) (p : a ≡ word_from s 0) (q : b ≡ word_from s a.to) (r : c ≡ word_from s b.to)
    (t : d ≡ word_from s c.to) (u : e ≡ word_from s d.to) (la : a.to ≤ length s) (lb : b.to ≤ length s) (lc : c.to ≤ length s)
    (ld : d.to ≤ length s) where
  abbrev W : ℕ → List (List ℕ)
  W k = words_here [] (drop k s)

  na : Next s a (words_here [] s)
  na = rw p (next_word_lem s 0 (omega arith))

  nb : Next s b (W a.to)
  nb = rw q (next_word_lem s a.to la)

  nc : Next s c (W b.to)
  nc = rw r (next_word_lem s b.to lb)

  nd : Next s d (W c.to)
  nd = rw t (next_word_lem s c.to lc)

  ne : Next s e (W d.to)
  ne = rw u (next_word_lem s d.to ld)

  second_is : word_in s b ≡ get_or (words_here [] s) 1 []
  second_is = next-is s b _ nb ∙ rw (← next-behind s a _ na) (get_or-drop 1 (words_here [] s) 0 [])

  third-is : word_in s c ≡ get_or (words_here [] s) 2 []
  third-is = next-is s c _ nc ∙ rw (← next-behind s b _ nb, ← next-behind s a _ na, drop-drop) (get_or-drop 2 (words_here [] s) 0 [])

  fourth-is : word_in s d ≡ get_or (words_here [] s) 3 []
  fourth-is =
      next-is s d _ nd
      ∙ rw (← next-behind s c _ nc, ← next-behind s b _ nb, ← next-behind s a _ na, drop-drop, drop-drop) (get_or-drop 3 (words_here [] s) 0 [])

  count-is : word_count a + word_count b + word_count c + word_count d + word_count e ≡ min 5 (length (words_here [] s))
  count-is =
      omega (
        arith,
        next-count s a _ 4 na,
        next-count s b _ 3 nb,
        next-count s c _ 2 nc,
        next-count s d _ 1 nd,
        next-count s e _ 0 ne,
      )

  pub holds-words : (count : ℕ) → count ≡ word_count a + word_count b + word_count c + word_count d + word_count e
      → HoldsWords s (record { first = a; second = b; third = c; fourth = d; count = count })
  holds-words count f =
      record {
        count = f ∙ count-is;
        first = next-is s a _ na;
        second = second_is;
        third = third-is;
        fourth = fourth-is;
        behind = rw (← q) at (behind-blanks s a.to la) ∙ sym (next-behind s a _ na);
        within = let w : b.from ≤ b.to = rw q (word-ends s a.to) in omega arith;
      }

-- a word as its ends are computed
pub part-is : (s : List ℕ) (w : Word) (from to : ℕ) → to ≡ min w.to (length s) → from ≡ min w.from to
    → take (to - from) (drop from s) ≡ word_in s w
unfolding word_in
part-is s w from to e f = go (dec_le w.from to)
  where
    go : Dec (w.from ≤ to) → take (to - from) (drop from s) ≡ take (w.to - w.from) (drop w.from s)
    go (yes h) =
        let p : from ≡ w.from = omega arith in
        rw p (cut (dec_le w.to (length s)))
      where
        cut : Dec (w.to ≤ length s) → take (to - w.from) (drop w.from s) ≡ take (w.to - w.from) (drop w.from s)
        cut (yes k) = let q : to ≡ w.to = omega arith in rw q refl
        cut (no k) =
            let l = length-drop w.from s in
            take_all (to - w.from) (drop w.from s) (omega arith) ∙ sym (take_all (w.to - w.from) (drop w.from s) (omega arith))
    go (no h) = empty (dec_le w.to (length s))
      where
        z : to - from ≡ 0
        z = omega arith

        empty : Dec (w.to ≤ length s) → take (to - from) (drop from s) ≡ take (w.to - w.from) (drop w.from s)
        empty (yes k) = let y : w.to - w.from ≡ 0 = omega arith in rw (z, y) refl
        empty (no k) =
            let y : drop w.from s ≡ [] = drop_of_length-le s {i = w.from} (omega arith) in
            rw (z, y) (sym (take_none (w.to - w.from)))
          where
            take_none : (m : ℕ) → ◌≡◌ {A = List ℕ} (take m []) []
            take_none zero = refl
            take_none (suc m) = refl
