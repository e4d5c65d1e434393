use mathlib.Core.Path.{ap, ◌∙◌}
use native.Mathlib.Omega.{arith}
use Rattle.cue_text.specs.Inside.{line_bytes}
use Rattle.cue_text.proofs.FaultLaws.{seek_first, more_within, seek_next, seek_last}
use Rattle.cue_text.proofs.fault.line_place.Goals as goal

pub loop-k-init : goal.loop-k-init
loop-k-init c = seek_first _ _

pub overflow_add-at : goal.overflow_add-at
overflow_add-at c = let n = c.line_bytes-at.ensures ∙ ap line_bytes c.rest.ensures in
    let a = c.args in
    let w = more_within a.text.now a.line c.loop-k.at c.loop-k.k c.loop-k-test.true n in
    omega (arith, w.0, c.well_formed)

pub overflow_add-k : goal.overflow_add-k
overflow_add-k c = let n = c.line_bytes-at.ensures ∙ ap line_bytes c.rest.ensures in
    let a = c.args in
    let w = more_within a.text.now a.line c.loop-k.at c.loop-k.k c.loop-k-test.true n in
    omega (arith, w.2, c.ranges.line)

pub loop-k-smaller : goal.loop-k-smaller
loop-k-smaller c = let n = c.line_bytes-at.ensures ∙ ap line_bytes c.rest.ensures in
    let a = c.args in
    let w = more_within a.text.now a.line c.loop-k.at c.loop-k.k c.loop-k-test.true n in
    omega (arith, w.2)

pub loop-k-preserved : goal.loop-k-preserved
loop-k-preserved c = let n = c.line_bytes-at.ensures ∙ ap line_bytes c.rest.ensures in
    seek_next _ _ _ _ c.loop-k.invariant c.loop-k-test.true n

pub returns : goal.returns
returns c = let s = c.loop-k.invariant in
    (s.within, seek_last _ _ _ _ s c.loop-k-test.false)
