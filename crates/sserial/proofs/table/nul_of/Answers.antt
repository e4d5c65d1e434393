use mathlib.Core.Path.{◌∙◌}
use native.Mathlib.Omega.{arith}
use Rattle.sserial.proofs.TableLaws.{nul_here, nul_later, nul_none}
use Rattle.sserial.proofs.table.nul_of.Goals as goal

pub returns-then-memory-i-eq0 : goal.returns-then-memory-i-eq0
returns-then-memory-i-eq0 c =
    let e = nul_here _ _ c.loop-i-test.true c.if-memory-i-eq0.true in
    (omega (arith, c.loop-i.invariant), omega (arith, c.loop-i.invariant))

pub loop-i-preserved : goal.loop-i-preserved
loop-i-preserved c = nul_later _ _ c.loop-i-test.true c.if-memory-i-eq0.false ∙ c.loop-i.invariant

pub returns : goal.returns
returns c = (c.max.ensures ∙ nul_none _ _ _ c.loop-i.auto.i-end c.loop-i-test.false c.loop-i.invariant, omega (arith, c.max.ensures))
