use mathlib.Core.Path.{◌≡◌, sym, ◌∙◌}
use lib.ListN.{length}
use native.Mathlib.Omega.{arith}
use Rattle.salvage.proofs.SpanLaws.{gap_first, gap_more, gap_ends, gap_all}
use Rattle.salvage.proofs.scan.gap_at.Goals as goal

pub loop-n-init : goal.loop-n-init
loop-n-init c = gap_first _

pub returns-then-stands_at : goal.returns-then-stands_at
returns-then-stands_at c = gap_ends _ _ c.loop-n.invariant (sym c.stands_at.ensures ∙ c.if-stands_at.true)

pub loop-n-preserved : goal.loop-n-preserved
loop-n-preserved c = gap_more _ _
    c.loop-n.invariant
    (omega arith)
    (sym c.stands_at.ensures ∙ c.if-stands_at.false)

pub returns : goal.returns
returns c =
    let e : length c.args.rest.now ≡ c.loop-n.n = omega arith in
    e ∙ gap_all _ _ c.loop-n.invariant c.loop-n-test.false
