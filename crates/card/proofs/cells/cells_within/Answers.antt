use native.Mathlib.Omega.{arith}
use Rattle.card.proofs.CellLaws.{within_none, not_within, sum_fits, within-last}
use Rattle.card.proofs.cells.cells_within.Goals as goal

pub returns-then-n-eq0 : goal.returns-then-n-eq0
returns-then-n-eq0 c = within_none _ _ _ _ c.if-n-eq0.true

pub returns-then-stride-bytes : goal.returns-then-stride-bytes
returns-then-stride-bytes c = not_within _ _ _ _ c.if-n-eq0.false c.if-stride-bytes.true

pub overflow_mul-result : goal.overflow_mul-result
overflow_mul-result c = let a = c.args in
    omega (arith, sum_fits a.n a.from a.stride a.bytes c.if-stride-bytes.false, c.requires)

pub overflow_add-result : goal.overflow_add-result
overflow_add-result c = let a = c.args in
    omega (arith, sum_fits a.n a.from a.stride a.bytes c.if-stride-bytes.false, c.requires)

pub overflow_add-result-2 : goal.overflow_add-result-2
overflow_add-result-2 c = let a = c.args in
    omega (arith, sum_fits a.n a.from a.stride a.bytes c.if-stride-bytes.false, c.requires)

pub returns : goal.returns
returns c = within-last _ _ _ _ c.if-n-eq0.false c.if-stride-bytes.false
