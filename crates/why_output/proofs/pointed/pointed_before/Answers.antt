use mathlib.Core.Path.{sym, ◌∙◌}
use Rattle.why_output.proofs.PointedLaws.{looking_start, looking_found, looking_next, looking_less, looking_end}
use Rattle.why_output.proofs.pointed.pointed_before.Goals as goal

pub loop-n-init : goal.loop-n-init
loop-n-init c = looking_start _ _

pub returns-then-by_pointer : goal.returns-then-by_pointer
returns-then-by_pointer c = looking_found c.loop-n.invariant c.loop-n-test.true (sym c.by_pointer.ensures ∙ c.if-by_pointer.true)

pub loop-n-smaller : goal.loop-n-smaller
loop-n-smaller c = looking_less c.loop-n.invariant c.loop-n-test.true (rw c.fields_at.ensures at c.command_bytes-k.ensures) c.least-n.ensures

pub loop-n-preserved : goal.loop-n-preserved
loop-n-preserved c = looking_next c.loop-n.invariant c.loop-n-test.true
    (rw c.fields_at.ensures at c.command_bytes-k.ensures)
    c.least-n.ensures
    (sym c.by_pointer.ensures ∙ c.if-by_pointer.false)
    c.least-from.ensures

pub returns : goal.returns
returns c = looking_end c.loop-n.invariant c.loop-n-test.false
