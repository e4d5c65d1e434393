use mathlib.Core.Path.{◌≡◌, refl, ◌∙◌}
use native.Mathlib.Omega.{arith}
use native.Mathlib.Nat.{add-zero}
use lib.ListN.{length-set}
use Rattle.text.proofs.RoomLaws.{put-least, put_step, put-end}
use Rattle.text.proofs.put.Goals as goal

pub overflow_sub-out : goal.overflow_sub-out
overflow_sub-out c = omega (arith, c.least-from.ensures)

pub loop-i-init : goal.loop-i-init
loop-i-init c = let e = c.least-from.ensures in
    (rw (add-zero, e) (put-least _ _ _), refl, omega arith)

pub bounds-text-i : goal.bounds-text-i
bounds-text-i c = omega (arith, c.least-n.ensures, c.least-from.ensures)

pub overflow_add-out : goal.overflow_add-out
overflow_add-out c = omega (arith, c.least-n.ensures, c.least-from.ensures)

pub bounds-out-from : goal.bounds-out-from
bounds-out-from c = omega (arith, c.least-n.ensures, c.least-from.ensures)

pub loop-i-preserved : goal.loop-i-preserved
loop-i-preserved c = let l = c.loop-i.invariant in
    let text = c.args.text.now in
    (put_step text _ _ c.loop-i.i (omega (arith, c.least-n.ensures)) ∙ l.0, rw length-set l.1, omega arith)

pub overflow_add-result : goal.overflow_add-result
overflow_add-result c = omega (arith, c.least-n.ensures, c.least-from.ensures)

pub shape_of-out : goal.shape_of-out
shape_of-out c = c.loop-i.invariant.1

pub returns : goal.returns
returns c = let l = c.loop-i in
    let e : c.least-n.result ≡ l.i = omega arith in
    rw e (put-end _ _ _ l.i (omega (arith, c.least-from.ensures)) (omega (arith, c.least-n.ensures)) ∙ l.invariant.0)
