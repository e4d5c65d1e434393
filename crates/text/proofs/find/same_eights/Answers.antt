use mathlib.Core.Path.{sym, ◌∙◌}
use native.Mathlib.Omega.{arith}
use Rattle.text.proofs.FindLaws.{group_next, group_differs, group_end}
use Rattle.text.proofs.find.same_eights.Goals as goal

pub returns-then-ne : goal.returns-then-ne
returns-then-ne c = let a = c.args in
    sym (sym c.loop-i.invariant ∙ group_differs a.a.now a.b.now c.loop-i.i (omega arith) (omega arith) c.if-ne.ensures)

pub loop-i-preserved : goal.loop-i-preserved
loop-i-preserved c = let a = c.args in
    sym (group_next a.a.now a.b.now c.loop-i.i (omega arith) (omega arith) c.if-ne.ensures) ∙ c.loop-i.invariant

pub returns : goal.returns
returns c = let a = c.args in
    sym (sym c.loop-i.invariant ∙ group_end a.a.now a.b.now c.loop-i.i (omega arith) (omega arith))
