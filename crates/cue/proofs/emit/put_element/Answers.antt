use Prim.Native.Nat.{◌-◌}
use mathlib.Core.Path.{◌≡◌, refl, sym, ◌∙◌}
use native.Mathlib.Omega.{arith}
use native.Mathlib.Nat.{add-zero, sub-zero}
use lib.ListN.{length-set}
use Rattle.packet.proofs.StoreLaws.{copy_step}
use Rattle.cue.proofs.emit.put_element.Goals as goal

pub loop-i-init : goal.loop-i-init
loop-i-init c = (refl, rw (add-zero, sub-zero) refl)

pub loop-i-preserved : goal.loop-i-preserved
loop-i-preserved c = (
  rw length-set c.loop-i.invariant.0,
  c.loop-i.invariant.1 ∙ copy_step c.args.rest.now _ 6 _ c.args.n c.loop-i.i (omega arith) (omega arith),
)

pub shape_of-out : goal.shape_of-out
shape_of-out c = c.loop-i.invariant.0

pub returns : goal.returns
returns c = let l = c.loop-i in let z : c.args.n - l.i ≡ 0 = omega arith in sym (rw z at l.invariant.1)
