use borrow.Author.Rules.{rules}
use Prim.Native.Nat.{ℕ, ◌≤◌}
use mathlib.Core.Path.{◌≡◌, refl}
use native.Mathlib.Omega.{arith}
use Rattle.lbp16.proofs.RuleLaws.{rule_number_range}
use Rattle.capture.specs.Capture.{capture_listed}
use Rattle.capture.proofs.WalkLaws.{walking_first, walking_cut, walking_refused, walking_last, walking_next}
use Rattle.capture.proofs.WalkLaws.{n_within, walking_fits, walking_roomy}
use Rattle.capture.proofs.walk.walk.Goals as goal

-- a lemma's facts, as the clauses have names
named3 : {A B C R : Type 0} → (A → B → C → R) → A × (B × C) → R
named3 f h = f h.0 h.1.0 h.1.1

-- a frame has its header
header_there : {n : ℕ} → 16 ≤ n → n ≡ 0 → ⊥
header_there h z = omega arith

pub loop-rest-init : goal.loop-rest-init
loop-rest-init c = walking_first _ _ _ _ _ (omega arith)

pub returns-in_default : goal.returns-in_default
unfolding capture_listed
returns-in_default c =
    rw c.at.ensures (named3 (λ h0 h1 h2. record { value = h0; out_after = h1; numbers_after = h2 })
    (walking_cut _ _ _ _ _ _ _ _ _ _ c.loop-rest.invariant c.requires c.loop-rest-test.true _ refl (rw c.in_default.is at c.frame_bytes.ensures.whole)))

pub slice_bounds-frame-count : goal.slice_bounds-frame-count
slice_bounds-frame-count c =
    let w = n_within _ _ _ _ _ _ _ _ _ _ c.loop-rest.invariant c.requires c.loop-rest-test.true _ c.in-Some.ensures.whole (header_there c.in-Some.ensures.header) in
    w.0

pub slice_bounds-frame-start : goal.slice_bounds-frame-start
slice_bounds-frame-start c =
    let w = n_within _ _ _ _ _ _ _ _ _ _ c.loop-rest.invariant c.requires c.loop-rest-test.true _ c.in-Some.ensures.whole (header_there c.in-Some.ensures.header) in
    search rules

pub slice_bounds-frame-end : goal.slice_bounds-frame-end
slice_bounds-frame-end c =
    let w = n_within _ _ _ _ _ _ _ _ _ _ c.loop-rest.invariant c.requires c.loop-rest-test.true _ c.in-Some.ensures.whole (header_there c.in-Some.ensures.header) in
    search rules

pub returns-in-Err : goal.returns-in-Err
unfolding capture_listed
returns-in-Err c =
    let some = (rule_number_range c.in-Err.rule).0 in
    rw c.at-in-Err.ensures (named3 (λ h0 h1 h2. record { value = h0; out_after = h1; numbers_after = h2 })
    (walking_refused _ _ _ _ _ _ _ _ _ _ c.loop-rest.invariant c.requires c.loop-rest-test.true _ c.in-Some.ensures.whole (header_there c.in-Some.ensures.header) _
    c.datagram_in-d.ensures.0 _ c.in-Err.ensures (λ z. omega arith)))

pub put-requires : goal.put-requires
put-requires c = walking_fits _ _ _ _ _ _ _ _ _ _ c.loop-rest.invariant c.requires c.loop-rest-test.true _ c.in-Some.ensures.whole (header_there c.in-Some.ensures.header) _ c.datagram_in-d.ensures.0 _ c.in-Ok.ensures refl c.datagram_in-d.ensures.1

pub moved-p-requires : goal.moved-p-requires
moved-p-requires c = walking_roomy _ _ _ _ _ _ _ _ _ _ c.loop-rest.invariant c.requires c.loop-rest-test.true _ c.in-Some.ensures.whole (header_there c.in-Some.ensures.header) _ c.datagram_in-d.ensures.0 _ c.in-Ok.ensures refl c.datagram_in-d.ensures.1

pub slice_bounds-rest-count : goal.slice_bounds-rest-count
slice_bounds-rest-count c =
    let w = n_within _ _ _ _ _ _ _ _ _ _ c.loop-rest.invariant c.requires c.loop-rest-test.true _ c.in-Some.ensures.whole (header_there c.in-Some.ensures.header) in
    w.1

pub slice_bounds-rest-start : goal.slice_bounds-rest-start
slice_bounds-rest-start c =
    let w = n_within _ _ _ _ _ _ _ _ _ _ c.loop-rest.invariant c.requires c.loop-rest-test.true _ c.in-Some.ensures.whole (header_there c.in-Some.ensures.header) in
    search rules

pub loop-rest-preserved : goal.loop-rest-preserved
loop-rest-preserved c = walking_next _ _ _ _ _ _ _ _ _ _ c.loop-rest.invariant c.requires c.loop-rest-test.true _ c.in-Some.ensures.whole (header_there c.in-Some.ensures.header) _ c.datagram_in-d.ensures.0 _ c.in-Ok.ensures refl c.datagram_in-d.ensures.1 _ _
    c.put.ensures.out_after
    c.put.ensures.numbers_after _
    c.moved-p.ensures

pub returns : goal.returns
unfolding capture_listed
returns c = named3 (λ h0 h1 h2. record { value = h0; out_after = h1; numbers_after = h2 })
    (walking_last _ _ _ _ _ _ _ _ _ _ c.loop-rest.invariant c.requires c.loop-rest-test.false)
