use mathlib.Core.Path.{refl, sym, ◌∙◌}
use native.Mathlib.Omega.{arith}
use Rattle.text.proofs.FindLaws.{same_next, same_differs, same_end}
use Rattle.text.proofs.find.same_short.Goals as goal

pub loop-i-init : goal.loop-i-init
loop-i-init c = refl

pub returns-then-x-b : goal.returns-then-x-b
returns-then-x-b c = let a = c.args in
    sym (sym c.loop-i.invariant ∙ same_differs a.a.now a.b.now c.loop-i.i (omega arith) (omega arith) c.if-x-b.true)

pub loop-i-preserved : goal.loop-i-preserved
loop-i-preserved c = let a = c.args in
    sym (same_next a.a.now a.b.now c.loop-i.i (omega arith) (omega arith) c.if-x-b.false) ∙ c.loop-i.invariant

pub returns : goal.returns
returns c = let a = c.args in
    sym (sym c.loop-i.invariant ∙ same_end a.a.now a.b.now c.loop-i.i (omega arith) (omega arith))
