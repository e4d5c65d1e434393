use mathlib.Core.Path.{refl, sym, ap, ◌∙◌}
use native.Mathlib.Omega.{arith}
use lib.ListN.{length-take, length-drop}
use Rattle.recording.specs.Recording.{good_bytes}
use Rattle.recording.proofs.LoopLaws.{none-good, good-some, judging_start, judging_stop, judging_within, judging_next}
use Rattle.recording.proofs.judge_parts.Goals as goal

pub loop-k-init : goal.loop-k-init
loop-k-init c = judging_start _ _ _ _

pub returns-in_default : goal.returns-in_default
returns-in_default c = judging_stop c.loop-k.invariant _ _ _ _ c.pair_at-next.ensures 0 (none-good _ c.in_default.not-Good) refl _ c.judgment_of.ensures

pub overflow_add-at : goal.overflow_add-at
overflow_add-at c = let s = c.loop-k.invariant in
    let w = judging_within s _ _ _ _ c.pair_at-next.ensures _ (ap good_bytes (sym c.in-Good.is)) (good-some _ _ _ _ _ (ap (λ t. t.pair) (sym c.pair_at-next.ensures) ∙ c.in-Good.is)) in
    omega (arith, w.whole, s.end)

pub slice_bounds-rest-count : goal.slice_bounds-rest-count
slice_bounds-rest-count c = let s = c.loop-k.invariant in
    (judging_within s _ _ _ _ c.pair_at-next.ensures _ (ap good_bytes (sym c.in-Good.is)) (good-some _ _ _ _ _ (ap (λ t. t.pair) (sym c.pair_at-next.ensures) ∙ c.in-Good.is))).whole

pub slice_bounds-rest-start : goal.slice_bounds-rest-start
slice_bounds-rest-start c = slice_bounds-rest-count c

pub loop-k-smaller : goal.loop-k-smaller
loop-k-smaller c = let s = c.loop-k.invariant in
    let w = judging_within s _ _ _ _ c.pair_at-next.ensures _ (ap good_bytes (sym c.in-Good.is)) (good-some _ _ _ _ _ (ap (λ t. t.pair) (sym c.pair_at-next.ensures) ∙ c.in-Good.is)) in
    simp (length-take, length-drop) (omega (arith, w.some, w.whole))

pub loop-k-preserved : goal.loop-k-preserved
loop-k-preserved c = let s = c.loop-k.invariant in
    judging_next s _ _ _ _ c.pair_at-next.ensures _ (ap good_bytes (sym c.in-Good.is)) (good-some _ _ _ _ _ (ap (λ t. t.pair) (sym c.pair_at-next.ensures) ∙ c.in-Good.is))
    c.pair_at-next.auto.store
