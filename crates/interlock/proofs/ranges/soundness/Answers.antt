use mathlib.Core.Path.{refl, sym, ◌∙◌}
use native.Mathlib.Omega.{arith}
use Rattle.packet.specs.Verdict.{verdict_listed}
use Rattle.interlock.specs.Guard.{soundness}
use Rattle.interlock.proofs.PairsLaws.{pair-fault, pair-fine, all-fine, half-fault}
use Rattle.interlock.proofs.ranges.soundness.Goals as goal

pub loop-index-init : goal.loop-index-init
unfolding soundness
loop-index-init c = refl

pub returns-then-index-faulty : goal.returns-then-index-faulty
unfolding verdict_listed
returns-then-index-faulty c =
    let p = c.as_chunks.ensures in
    rw c.at.ensures (pair-fault _ _ p.front p.front_len _ c.loop-index-test.true _ (rw c.faulty.ensures at c.if-index-faulty.true)
    ∙ sym c.loop-index.invariant)

pub loop-index-preserved : goal.loop-index-preserved
loop-index-preserved c =
    let p = c.as_chunks.ensures in
    c.loop-index.invariant
    ∙ pair-fine _ _ p.front p.front_len _ c.loop-index-test.true _ (rw c.faulty.ensures at c.if-index-faulty.false)

pub returns-then-half-ne0 : goal.returns-then-half-ne0
unfolding verdict_listed
returns-then-half-ne0 c =
    let p = c.as_chunks.ensures in
    let some = c.if-half-ne0.true in
    rw c.at-then-half-ne0.ensures (half-fault _ _ p.front p.front_len _ (let t = c.loop-index-test.false in omega (arith, c.loop-index.auto.index-end))
    (λ z. some (p.back_len ∙ z)) ∙ sym c.loop-index.invariant)

pub returns : goal.returns
unfolding verdict_listed
returns c =
    let p = c.as_chunks.ensures in
    all-fine _ _ p.front p.front_len _ (let t = c.loop-index-test.false in omega (arith, c.loop-index.auto.index-end))
    (sym p.back_len ∙ c.if-half-ne0.false) ∙ sym c.loop-index.invariant
