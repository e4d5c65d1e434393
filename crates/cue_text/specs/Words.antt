-- A text's lines, and a line's words.
use Rattle.std.specs.Prelude.{ℕ, List, [], ◌∷◌, ◌++◌, Bool, ◌||◌, cond, take, eqb}
use Rattle.text.specs.Find.{bytes_before}

abbrev pub newline : ℕ
newline = 10

-- `#`
abbrev pub comment_mark : ℕ
comment_mark = 35

-- blank, tab and carriage return
unfoldable pub is_blank : ℕ → Bool
is_blank b = eqb b 32 || eqb b 9 || eqb b 13

-- Each line is ended by a newline; the last one may lack it.
unfoldable pub with_byte : ℕ → List (List ℕ) → List (List ℕ)
with_byte b [] = (b ∷ []) ∷ []
with_byte b (l ∷ ls) = (b ∷ l) ∷ ls

unfoldable pub lines_of : List ℕ → List (List ℕ)
lines_of [] = []
lines_of (b ∷ bs) = cond (eqb b newline) ([] ∷ lines_of bs) (with_byte b (lines_of bs))

-- a line without its comment
unfoldable pub uncommented : List ℕ → List ℕ
uncommented line = take (bytes_before comment_mark line) line

-- Words stand apart by blanks; `w` is the word begun.
unfoldable pub closed : List ℕ → List (List ℕ) → List (List ℕ)
closed [] ws = ws
closed (c ∷ cs) ws = (c ∷ cs) ∷ ws

unfoldable pub words_from : List ℕ → List ℕ → List (List ℕ)
words_from w [] = closed w []
words_from w (b ∷ bs) = cond (is_blank b) (closed w (words_from [] bs)) (words_from (w ++ (b ∷ [])) bs)

unfoldable pub words_of : List ℕ → List (List ℕ)
words_of line = words_from [] (uncommented line)
