use native.Mathlib.Omega.{arith}
use borrow.Author.Rules.{rules}
use Rattle.salvage.proofs.LoopLaws.{held-within, counting-first, counting-next, counting-last}
use Rattle.salvage.proofs.LoopLaws.{roomy, some_bytes, behind-within}
use Rattle.salvage.proofs.scan.count.Goals as goal

pub loop-at-init : goal.loop-at-init
loop-at-init c = record { done = _; counting = counting-first _ _ c.none-c.ensures }

pub slice_bounds-span_at-count : goal.slice_bounds-span_at-count
slice_bounds-span_at-count c = held-within c.loop-at.invariant.counting.held

pub slice_bounds-span_at-start : goal.slice_bounds-span_at-start
slice_bounds-span_at-start c = let h = held-within c.loop-at.invariant.counting.held in search rules

pub slice_bounds-span_at-end : goal.slice_bounds-span_at-end
slice_bounds-span_at-end c = let h = held-within c.loop-at.invariant.counting.held in search rules

pub tallied-c-requires : goal.tallied-c-requires
tallied-c-requires c = roomy _ _ _ _ _
    c.loop-at.invariant.counting
    c.loop-at-test.true
    c.span_at-s.ensures
    (omega arith)

pub overflow_add-at : goal.overflow_add-at
overflow_add-at c = omega (
  arith,
  behind-within _ _ _ _ _
      c.loop-at.invariant.counting
      c.loop-at-test.true
      c.span_at-s.ensures,
)

pub loop-at-smaller : goal.loop-at-smaller
loop-at-smaller c = omega (
  arith,
  some_bytes _ _ _ _ _
      c.loop-at.invariant.counting
      c.loop-at-test.true
      c.span_at-s.ensures,
  behind-within _ _ _ _ _
      c.loop-at.invariant.counting
      c.loop-at-test.true
      c.span_at-s.ensures,
)

pub loop-at-preserved : goal.loop-at-preserved
loop-at-preserved c = record {
  done = _;
  counting =
      counting-next _ _ _ _ _
      c.loop-at.invariant.counting
      c.loop-at-test.true
      c.span_at-s.ensures _
      c.tallied-c.ensures;
}

pub returns : goal.returns
returns c = counting-last c.loop-at.invariant.counting (omega arith)
