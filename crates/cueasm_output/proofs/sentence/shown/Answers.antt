use mathlib.Core.Path.{refl}
use Rattle.cueasm_output.specs.Sentence.{shown}
use Rattle.cueasm_output.proofs.sentence.shown.Goals as goal

pub returns-then-b : goal.returns-then-b
unfolding shown
returns-then-b c = rw c.if-b.true refl

pub returns-else-b : goal.returns-else-b
unfolding shown
returns-else-b c = rw c.if-b.false refl
