use native.Mathlib.Omega.{arith}
use Rattle.parts.specs.Inside.{plain}
use Rattle.parts.proofs.PartLaws.{rest-within}
use Rattle.parts.proofs.WholeLaws.{byte-going, stretch_more}
use Rattle.parts.proofs.take.stretch_taken.Goals as goal

pub returns-then-rest-kept : goal.returns-then-rest-kept
returns-then-rest-kept c = let p = c.requires in
    (byte-going _ _ _ _ p.0 p.1 p.2 p.3 _ _ _ _ c.byte_taken-t.ensures, omega arith)

pub slice_bounds-records_joined-count : goal.slice_bounds-records_joined-count
slice_bounds-records_joined-count c = omega (arith, c.requires.3)

pub slice_bounds-records_joined-start : goal.slice_bounds-records_joined-start
slice_bounds-records_joined-start c = omega (arith, c.requires.3)

pub overflow_add-result : goal.overflow_add-result
overflow_add-result c = let w = rest-within c.args.rest.now 1 _ c.requires.3 c.records_joined-run.ensures.within in
    omega (arith, w, c.well_formed)

pub returns : goal.returns
unfolding plain
returns c = let p = c.requires in (
  stretch_more _ _ _ _ p.0 p.1 p.2 p.3 _ _ _ _ c.byte_taken-t.ensures c.if-rest-kept.false _ _
      c.records_joined-run.ensures,
  omega arith,
)
