use mathlib.Core.Path.{refl}
use Rattle.sserial.specs.Inside.{sums_more}
use Rattle.sserial.proofs.count.sums_more.Goals as goal

pub returns-in_err-sums : goal.returns-in_err-sums
unfolding sums_more
returns-in_err-sums c = rw (c.from_residual.ensures, c.in_err-sums.was) refl

pub returns : goal.returns
unfolding sums_more
returns c = rw c.in_ok-sums.was c.sums_with.ensures
