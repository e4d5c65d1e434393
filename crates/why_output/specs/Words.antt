-- The words that the program `why` is started with: --hex and --lb, each at most once, and the name of a file of pointers, in any order.
use Rattle.std.specs.Prelude.{ℕ, ◌+◌, ◌-◌, List, [], ◌∷◌, ◌++◌, Bool, true, false, not, ◌||◌, cond, take, get_or, eqb, ltb}
use Rattle.std.specs.Prelude.{Some, None, is_some, is_none}
use Rattle.text.specs.Number.{ascii}
use Rattle.text.specs.Find.{same_bytes}
use Rattle.why_output.specs.declared.words.Words.{Words}

-- a word that begins with - is no name
unfoldable pub is_option : List ℕ → Bool
is_option word = eqb (get_or word 0 0) 45

unfoldable pub no_words : Bool → Words
no_words wrong? = record { hex = false; lb = false; name = None; wrong = wrong? }

-- with argument k
unfoldable pub with_word : Words → ℕ → List ℕ → Words
with_word w k word =
    cond (same_bytes word (ascii "--hex")) (record { hex = true; lb = w.lb; name = w.name; wrong = w.wrong || w.hex })
    (cond (same_bytes word (ascii "--lb")) (record { hex = w.hex; lb = true; name = w.name; wrong = w.wrong || w.lb })
    (record { hex = w.hex; lb = w.lb; name = Some k; wrong = w.wrong || (is_some w.name || is_option word) }))

-- the arguments from k on
unfoldable pub with_words : Words → ℕ → List (List ℕ) → Words
with_words w k [] = w
with_words w k (word ∷ words) = with_words (with_word w k word) (1 + k) words

-- `count`: the program's name and its arguments. More than three are wrong.
unfoldable pub words_of : ℕ → List (List ℕ) → Words
words_of count words =
    cond (ltb 4 count) (no_words true) (with_words (no_words false) 1 (take (count - 1) words))

-- The bytes of standard input that are looked at: one more than it may have, so that a longer one is noticed; none where nothing is
-- done with them. `found?`: whether the file named can be opened.
unfoldable pub most_read : Words → Bool → ℕ
most_read w found? = cond (w.wrong || not (is_none w.name || found?)) 0 3000001

unfoldable pub usage_text : List ℕ
usage_text =
    ascii "usage: why [--hex] [--lb] [POINTERS] < INPUT\n"
    ++ ascii "INPUT is a packet; with --lb packets, each behind \"LB\" and its length; with --hex hexadecimal text of these.\n"
    ++ ascii "It has at most 3,000,000 bytes. POINTERS is a file of the card's eight pointers, 32 bytes; a fresh card has zeros.\n"
