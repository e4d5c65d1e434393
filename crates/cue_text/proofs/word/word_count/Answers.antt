use mathlib.Core.Path.{refl}
use native.Mathlib.Omega.{arith}
use borrow.Author.Tests.{lt-ltb, le-ltb}
use Rattle.cue_text.specs.Inside.{word_count}
use Rattle.cue_text.proofs.word.word_count.Goals as goal

pub returns-then-w : goal.returns-then-w
unfolding word_count
returns-then-w c = (rw (lt-ltb _ _ c.if-w.true) refl, omega arith)

pub returns-else-w : goal.returns-else-w
unfolding word_count
returns-else-w c = (rw (le-ltb _ _ c.if-w.false) refl, omega arith)
