use Prim.Native.Nat.{◌+◌}
use mathlib.Core.Path.{ap, ◌∙◌}
use borrow.Author.Tests.{not-true, not-false}
use Rattle.lbp16.specs.declared.space.Row.{Row}
use Rattle.interlock.specs.Guard.{touches}
use Rattle.interlock.proofs.ListLaws.{record_read, record_written}
use Rattle.interlock.proofs.walk.record_protected.Goals as goal

pub returns-then-not-r : goal.returns-then-not-r
returns-then-not-r c = λ x e. record_read _ _ x e (not-true _ c.if-not-r.true)

pub returns : goal.returns
returns c = λ x e.
    let a = c.args in
    let row = c.row_of-row.ensures in
    record_written _ _ x e (not-false _ c.if-not-r.false) _
    (c.touches.ensures ∙ ap (λ (w : Row). touches a.guard.now (w.place + a.r.address) w.element) row)
