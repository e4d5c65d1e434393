use mathlib.Core.Path.{refl, sym, ◌∙◌}
use Rattle.parts.proofs.TakeLaws.{no_err}
use mathlib.Core.List.{[]}
use mathlib.Core.Bool.{false}
use native.Mathlib.Omega.{arith}
use lib.ListN.{length}
use Rattle.parts.proofs.ByteLaws.{shown-fits, shown-length}
use Rattle.parts.proofs.SingleLaws.{no_true, one_left, completed_kept, completed_fits, completed_ranged, completed_is}
use Rattle.parts.proofs.single.completed.Goals as goal

pub returns-then-part-last : goal.returns-then-part-last
returns-then-part-last c = record { taken = no_true; still = λ e. refl }

pub bounds-part-0 : goal.bounds-part-0
bounds-part-0 c = omega (arith, one_left (length c.args.part.now) c.args.last c.if-part-last.false)

pub bounds-rest-at : goal.bounds-rest-at
bounds-rest-at c = omega (arith, (let p = c.requires in completed_kept c.args.s.now [] false p.0 _ p.1 p.2).collected)

pub overflow_add-shown : goal.overflow_add-shown
overflow_add-shown c = omega (arith, (let p = c.requires in completed_kept c.args.s.now [] false p.0 _ p.1 p.2).collected)

pub slice_bounds-rest-end : goal.slice_bounds-rest-end
slice_bounds-rest-end c = shown-fits _ _ (let p = c.requires in completed_kept c.args.s.now [] false p.0 _ p.1 p.2)

pub slice_bounds-record_refusal-end : goal.slice_bounds-record_refusal-end
slice_bounds-record_refusal-end c = shown-length _ _ (let p = c.requires in completed_kept c.args.s.now [] false p.0 _ p.1 p.2)

pub returns-then-is_err : goal.returns-then-is_err
returns-then-is_err c = record { taken = no_true; still = λ e. refl }

pub slice_bounds-rest-end-2 : goal.slice_bounds-rest-end-2
slice_bounds-rest-end-2 c = shown-fits _ _ (let p = c.requires in completed_kept c.args.s.now [] false p.0 _ p.1 p.2)

pub slice_bounds-record_at-end : goal.slice_bounds-record_at-end
slice_bounds-record_at-end c = shown-length _ _ (let p = c.requires in completed_kept c.args.s.now [] false p.0 _ p.1 p.2)

pub returns-then-packer-eq2 : goal.returns-then-packer-eq2
returns-then-packer-eq2 c = record { taken = no_true; still = λ e. refl }

pub slice_bounds-rest-end-3 : goal.slice_bounds-rest-end-3
slice_bounds-rest-end-3 c = shown-fits _ _ (let p = c.requires in completed_kept c.args.s.now [] false p.0 _ p.1 p.2)

pub slice_bounds-put-end : goal.slice_bounds-put-end
slice_bounds-put-end c = shown-length _ _ (let p = c.requires in completed_kept c.args.s.now [] false p.0 _ p.1 p.2)

pub overflow_add-after : goal.overflow_add-after
overflow_add-after c = omega (arith, (let p = c.requires in completed_kept c.args.s.now [] false p.0 _ p.1 p.2).index)

pub save-requires : goal.save-requires
save-requires c = let p = c.requires in (
  completed_fits c.args.s.now c.args.part.now _ p.0 _ p.1 p.2 p.3 c.if-part-last.false _
      c.record_refusal.ensures (no_err _ (sym c.is_err.ensures.value ∙ c.if-is_err.false)) _ c.record_at.ensures _ c.turned-packer.ensures
      c.if-packer-eq2.false _ c.put.ensures,
  completed_ranged c.args.s.now c.args.part.now _ p.0 _ p.1 p.2 p.3 c.if-part-last.false _
      c.record_refusal.ensures (no_err _ (sym c.is_err.ensures.value ∙ c.if-is_err.false)) _ c.record_at.ensures _ c.turned-packer.ensures
      c.if-packer-eq2.false _ c.put.ensures,
)

pub returns : goal.returns
returns c = let p = c.requires in
    completed_is c.args.s.now c.args.part.now _ p.0 _ p.1 p.2 p.3 c.if-part-last.false _
    c.record_refusal.ensures (no_err _ (sym c.is_err.ensures.value ∙ c.if-is_err.false)) _ c.record_at.ensures _ c.turned-packer.ensures
    c.if-packer-eq2.false _ c.put.ensures _ c.save.ensures
