use mathlib.Core.Path.{refl}
use Rattle.text.specs.Number.{ascii}
use Rattle.why_output.specs.Words.{with_word}
use Rattle.why_output.proofs.words.with_word.Goals as goal

pub returns-then-same : goal.returns-then-same
unfolding with_word ascii
returns-then-same c = rw (← c.same.ensures, c.if-same.true) refl

pub returns-then-same-2 : goal.returns-then-same-2
unfolding with_word ascii
returns-then-same-2 c = rw (← c.same.ensures, c.if-same.false, ← c.same-2.ensures, c.if-same-2.true) refl

pub returns : goal.returns
unfolding with_word ascii
returns c = rw
    (← c.same.ensures, c.if-same.false, ← c.same-2.ensures, c.if-same-2.false, ← c.is_some.ensures, c.is_option.ensures) refl
