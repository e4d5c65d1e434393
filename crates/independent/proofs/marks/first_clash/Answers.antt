use Prim.Native.Nat.{ℕ}
use mathlib.Core.Bool.{Bool}
use mathlib.Core.Path.{◌≡◌, ap}
use mathlib.Core.Logic.{inl}
use native.Mathlib.Omega.{arith}
use Rattle.cue.specs.Records.{cut_up}
use Rattle.cue.specs.declared.records.Records.{Records}
use Rattle.independent.specs.Independent.{independence_listed}
use Rattle.independent.specs.Inside.{clashes_with}
use Rattle.independent.proofs.LoopLaws.{testing_first, testing_again, testing_last, clash-found}
use Rattle.independent.proofs.marks.first_clash.Goals as goal

-- a record's test, by its mark
found : {mark m : ℕ} (write : Bool) {b : Bool} → mark ≡ m → b ≡ clashes_with mark write → b ≡ clashes_with m write
found write e f = rw (← e) f

pub loop-index-init : goal.loop-index-init
loop-index-init c =
    let n = c.enumerate-index-items.ensures in
    let t = testing_first c.args.list.now c.args.marks.now c.requires.0 _ (ap (λ (s : Records). cut_up s.0.now) n.source) _ n.count in
    rw c.into_iter-index-iterator.ensures.into_iter_gives ((tt, tt, inl (omega (arith, t.few, c.well_formed))), tt, t)

pub loop-index-preserved : goal.loop-index-preserved
loop-index-preserved c =
    let h = c.in-Some.ensures.steps in
    let t = testing_again _ _ _ _ c.loop-index.invariant.2 _ _ h.0 _ (found _ c.mark_of.ensures c.clashes.ensures) c.if-clashes.false in
    rw h.2 ((tt, tt, inl (omega (arith, t.few, c.well_formed))), tt, t)

pub returns-then-clashes : goal.returns-then-clashes
unfolding independence_listed
returns-then-clashes c =
    let h = c.in-Some.ensures.steps in
    rw h.1 (clash-found _ _ _ _ c.loop-index.invariant.2 _ _ h.0 _ (found _ c.mark_of.ensures c.clashes.ensures) c.if-clashes.true)

pub returns : goal.returns
unfolding independence_listed
returns c = testing_last _ _ _ _ c.loop-index.invariant.2 c.in-None.ensures.steps.0.0
