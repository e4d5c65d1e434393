use Prim.Native.Nat.{◌-◌}
use mathlib.Core.Path.{◌≡◌, refl, sym, ◌∙◌}
use native.Mathlib.Omega.{arith}
use Rattle.packet.specs.Step.{unlocked}
use Rattle.packet.specs.Command.{elements}
use Rattle.packet.proofs.UnlockLaws.{unlock-again}
use Rattle.packet.proofs.command.unlock_after.Goals as goal

pub loop-i-preserved : goal.loop-i-preserved
loop-i-preserved c = record {
  near = omega arith;
  same = c.loop-i.invariant.same
      ∙ unlock-again _ _ _ _ _ _ c.loop-i-test.true
      ∙ rw (sym c.unlock_by_write-now_open.ensures) refl;
}

pub returns : goal.returns
unfolding unlocked elements
returns c = let l = c.loop-i in let z : c.args.count - l.i ≡ 0 = omega arith in sym (rw z at l.invariant.same)
