use mathlib.Core.Path.{ap, ◌∙◌}
use native.Mathlib.Omega.{arith}
use Rattle.interlock.specs.Guard.{touches}
use Rattle.interlock.proofs.BurstLaws.{promised-none, promised-read, promised-block}
use Rattle.interlock.proofs.promises_protected.Goals as goal

pub returns-then-words-eq0 : goal.returns-then-words-eq0
returns-then-words-eq0 c = promised-none _ _ c.if-words-eq0.true

pub returns-then-h : goal.returns-then-h
returns-then-h c = let n = c.if-words-eq0.false in
    promised-read _ _ _ c.header_of-h.ensures (omega arith) c.if-h.true

pub returns : goal.returns
returns c = let n = c.if-words-eq0.false in
    promised-block _ _ _ c.header_of-h.ensures (omega arith) c.if-h.false _
    (c.touches.ensures ∙ ap (touches _ _) c.span.ensures.0)
