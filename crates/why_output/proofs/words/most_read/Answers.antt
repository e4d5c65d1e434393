use mathlib.Core.Path.{refl}
use Rattle.why_output.specs.Words.{most_read}
use Rattle.why_output.proofs.WordsLaws.{none_is}
use Rattle.why_output.proofs.words.most_read.Goals as goal

pub returns-then-w-is_none : goal.returns-then-w-is_none
unfolding most_read
returns-then-w-is_none c = rw (← none_is _ _ c.is_none.ensures, c.if-w-is_none.true) refl

pub returns : goal.returns
unfolding most_read
returns c = rw (← none_is _ _ c.is_none.ensures, c.if-w-is_none.false) refl
