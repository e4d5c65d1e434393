use mathlib.Core.Path.{refl}
use Rattle.cue.specs.Summary.{summary}
use Rattle.parts.proofs.StateLaws.{numbers-none, numbers-some}
use Rattle.parts.proofs.state.shown.Goals as goal

pub returns-then-p-eq0 : goal.returns-then-p-eq0
unfolding summary
returns-then-p-eq0 c = numbers-none _ _ c.if-p-eq0.true (rw c.empty.ensures refl)

pub returns : goal.returns
returns c = numbers-some _ c.if-p-eq0.false
