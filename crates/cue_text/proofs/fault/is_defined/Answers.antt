use mathlib.Core.Path.{ap, ◌∙◌}
use native.Mathlib.Omega.{arith}
use Rattle.cue_text.specs.Inside.{line_bytes}
use Rattle.cue_text.proofs.FaultLaws.{look_first, more_within, look_found, look_next, look_last}
use Rattle.cue_text.proofs.fault.is_defined.Goals as goal

pub loop-k-init : goal.loop-k-init
loop-k-init c = look_first _ _ _

pub defines_name-requires : goal.defines_name-requires
defines_name-requires c = c.loop-k.invariant.within

pub returns-then-defines_name : goal.returns-then-defines_name
returns-then-defines_name c = look_found _ _ _ _ _ c.loop-k.invariant c.loop-k-test.true c.defines_name.ensures c.if-defines_name.true

pub overflow_add-at : goal.overflow_add-at
overflow_add-at c = let n = c.line_bytes-at.ensures ∙ ap line_bytes c.rest.ensures in
    let a = c.args in
    let w = more_within a.text.now a.line c.loop-k.at c.loop-k.k c.loop-k-test.true n in
    omega (arith, w.0, c.well_formed)

pub overflow_add-k : goal.overflow_add-k
overflow_add-k c = let n = c.line_bytes-at.ensures ∙ ap line_bytes c.rest.ensures in
    let a = c.args in
    let w = more_within a.text.now a.line c.loop-k.at c.loop-k.k c.loop-k-test.true n in
    omega (arith, w.2, c.ranges.line)

pub loop-k-smaller : goal.loop-k-smaller
loop-k-smaller c = let n = c.line_bytes-at.ensures ∙ ap line_bytes c.rest.ensures in
    let a = c.args in
    let w = more_within a.text.now a.line c.loop-k.at c.loop-k.k c.loop-k-test.true n in
    omega (arith, w.2)

pub loop-k-preserved : goal.loop-k-preserved
loop-k-preserved c = let n = c.line_bytes-at.ensures ∙ ap line_bytes c.rest.ensures in
    look_next _ _ _ _ _ c.loop-k.invariant c.loop-k-test.true c.defines_name.ensures c.if-defines_name.false n

pub returns : goal.returns
returns c = look_last _ _ _ _ _ c.loop-k.invariant c.loop-k-test.false
