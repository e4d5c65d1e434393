use mathlib.Core.Path.{◌≡◌, ◌∙◌}
use native.Mathlib.Omega.{arith}
use Rattle.why_output.proofs.WordsLaws.{words-many, words-none, words-one, words-two, words-three}
use Rattle.why_output.proofs.words.words_of.Goals as goal

pub returns-then-count-gt4 : goal.returns-then-count-gt4
returns-then-count-gt4 c = c.no_words.ensures ∙ words-many _ _ _ _ c.if-count-gt4.true

pub returns-then-count-lt2 : goal.returns-then-count-lt2
returns-then-count-lt2 c = c.no_words-none.ensures ∙ words-none _ _ _ _ c.if-count-lt2.true

pub returns-then-count-eq2 : goal.returns-then-count-eq2
returns-then-count-eq2 c = c.with_word-one.ensures ∙ rw c.no_words-none.ensures (words-one _ _ _ _ c.if-count-eq2.true)

pub returns-then-count-eq3 : goal.returns-then-count-eq3
returns-then-count-eq3 c = c.with_word-two.ensures ∙ rw (c.with_word-one.ensures, c.no_words-none.ensures) (words-two _ _ _ _ c.if-count-eq3.true)

pub returns : goal.returns
returns c = let four : c.args.count ≡ 4 =
    omega (arith, c.if-count-eq3.false, c.if-count-eq2.false, c.if-count-lt2.false, c.if-count-gt4.false) in
    c.with_word.ensures ∙ rw (c.with_word-two.ensures, c.with_word-one.ensures, c.no_words-none.ensures)
    (words-three _ _ _ _ four)
