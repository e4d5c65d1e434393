use Rattle.cuewhy_output.specs.Wording.{upper_digits}
use Rattle.cuewhy_output.proofs.shown.upper_digits.Goals as goal

pub returns-then-row-upper : goal.returns-then-row-upper
unfolding upper_digits
returns-then-row-upper c = rw (← c.row_of-row.ensures, c.if-row-upper.true)

pub returns-else-row-upper : goal.returns-else-row-upper
unfolding upper_digits
returns-else-row-upper c = rw (← c.row_of-row.ensures, c.if-row-upper.false)
